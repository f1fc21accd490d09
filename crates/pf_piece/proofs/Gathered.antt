-- The arcs at inner nodes, gathered node by node: every sum over them is one over the network's arcs.
use Rattle.std.proofs.Common.{◌≡◌, ℕ, zero, suc, ◌+◌, ◌<◌, List, [], ◌∷◌, ◌++◌, length, get_or, take, map, refl, Bool, true, false, cond, not, ◌&&◌, eqb, ltb, add-one, arith, ap, sym, ◌∙◌}
use Rattle.std.specs.Prelude.{ℤ, ◌+ℤ◌, pos}
use Rattle.std.proofs.lemmas.Int.{ints}
use Rattle.std.proofs.lemmas.List.{length-map}
use Rattle.pf_model.specs.declared.AffineArc.{AffineArc}
use Rattle.pf_model.specs.Cut.{sum_where}
use Rattle.pf_model.specs.Digraph.{numbers_from, arcs_out, arcs_in}
use Rattle.pf_model.specs.Network.{Network, ends_of}
use Rattle.pf_model.proofs.Numbers.{out_number, in_number}
use Rattle.pf_net.specs.Limits.{digraph_of}
use Rattle.pf_model.proofs.Facts.{none_before, add_before, join_three}
use Rattle.pf_piece.specs.Piece.{renamed, arcs_between}
use Rattle.pf_piece.specs.Held.{arc_at}
use Rattle.pf_piece.specs.Cores.{numbers_of, arcs_entering}
use Rattle.pf_piece.proofs.Openings.{between_suc}

-- a sum over two lists, one after the other
pub sum_append : (test : ℕ × ℕ → Bool) (n : ℤ → ℤ → ℤ) (xs ys : List AffineArc) →
    sum_where test (map ends_of (xs ++ ys)) (numbers_of n (xs ++ ys))
    ≡ sum_where test (map ends_of xs) (numbers_of n xs) +ℤ sum_where test (map ends_of ys) (numbers_of n ys)
sum_append test n [] ys = none_before (sum_where test (map ends_of ys) (numbers_of n ys))
sum_append test n (x ∷ xs) ys =
    add_before (cond (test (ends_of x)) (n x.a x.b) (pos 0)) (sum_where test (map ends_of (xs ++ ys)) (numbers_of n (xs ++ ys)))
    (sum_where test (map ends_of xs) (numbers_of n xs)) (sum_where test (map ends_of ys) (numbers_of n ys)) (sum_append test n xs ys)

-- one arc more or less in front
pub kept_step : (keep here : Bool) (test : ℕ × ℕ → Bool) (n : ℤ → ℤ → ℤ) (first : AffineArc) (rest : List AffineArc) (y : ℤ) → here ≡ test (ends_of first) →
    sum_where test (map ends_of rest) (numbers_of n rest) ≡ y →
    sum_where test (map ends_of (cond keep (first ∷ rest) rest)) (numbers_of n (cond keep (first ∷ rest) rest)) ≡ cond (keep && here) (n first.a first.b) (pos 0) +ℤ y
kept_step true here test n first rest y e f = let same = ap (λ b. cond b (n first.a first.b) (pos 0)) e in omega (arith, ints, same, f)
kept_step false here test n first rest y e f = f ∙ none_before y

turned : {X : Type 0} (b : Bool) (x y : X) → cond b x y ≡ cond (not b) y x
turned true x y = refl
turned false x y = refl

-- arcs between other nodes: those that become loops add nothing
pub sum_between : (f : ℕ → ℕ) (test : ℕ × ℕ → Bool) (n : ℤ → ℤ → ℤ) (arcs : List AffineArc) →
    sum_where test (map ends_of (arcs_between f arcs)) (numbers_of n (arcs_between f arcs))
    ≡ sum_where (λ e. not (eqb (f e.0) (f e.1)) && test (f e.0, f e.1)) (map ends_of arcs) (numbers_of n arcs)
sum_between f test n [] = refl
sum_between f test n (arc ∷ arcs) =
    ap (λ (xs : List AffineArc). sum_where test (map ends_of xs) (numbers_of n xs))
    (turned (eqb (f arc.tail) (f arc.head)) (arcs_between f arcs) (renamed f arc ∷ arcs_between f arcs))
    ∙ kept_step (not (eqb (f arc.tail) (f arc.head))) (test (f arc.tail, f arc.head)) test n (renamed f arc) (arcs_between f arcs) _ refl (sum_between f test n arcs)

-- and those that enter from 0 or 1
pub sum_entering : (f : ℕ → ℕ) (test : ℕ × ℕ → Bool) (n : ℤ → ℤ → ℤ) (arcs : List AffineArc) →
    sum_where test (map ends_of (arcs_entering f arcs)) (numbers_of n (arcs_entering f arcs))
    ≡ sum_where (λ e. ltb (f e.0) 2 && test (f e.0, f e.1)) (map ends_of arcs) (numbers_of n arcs)
sum_entering f test n [] = refl
sum_entering f test n (arc ∷ arcs) =
    kept_step (ltb (f arc.tail) 2) (test (f arc.tail, f arc.head)) test n (renamed f arc) (arcs_entering f arcs) _ refl (sum_entering f test n arcs)

-- the sum over a row is one over all arcs, of which those count that stand in the row
row_step : (here t : Bool) (test : ℕ × ℕ → Bool) (n : ℤ → ℤ → ℤ) (all : List AffineArc) (first : AffineArc) (j : ℕ) (row : List ℕ) (y : ℤ) →
    arc_at all j ≡ first → t ≡ test (ends_of first) →
    sum_where test (map ends_of (map (λ i. arc_at all i) row)) (numbers_of n (map (λ i. arc_at all i) row)) ≡ y →
    sum_where test (map ends_of (map (λ i. arc_at all i) (cond here (j ∷ row) row))) (numbers_of n (map (λ i. arc_at all i) (cond here (j ∷ row) row)))
    ≡ cond (here && t) (n first.a first.b) (pos 0) +ℤ y
row_step true t test n all first j row y at e f =
    let head = ap (λ (arc : AffineArc). cond (test (ends_of arc)) (n arc.a arc.b) (pos 0)) at in
    let same = ap (λ b. cond b (n first.a first.b) (pos 0)) e in
    omega (arith, ints, head, same, f)
row_step false t test n all first j row y at e f = f ∙ none_before y

pub sum_row : (p test : ℕ × ℕ → Bool) (n : ℤ → ℤ → ℤ) (all arcs : List AffineArc) (j : ℕ) →
    ((i : ℕ) → i < length arcs → arc_at all (j + i) ≡ arc_at arcs i) →
    sum_where test (map ends_of (map (λ i. arc_at all i) (numbers_from p j (map ends_of arcs)))) (numbers_of n (map (λ i. arc_at all i) (numbers_from p j (map ends_of arcs))))
    ≡ sum_where (λ e. p e && test e) (map ends_of arcs) (numbers_of n arcs)
sum_row p test n all [] j h = refl
sum_row p test n all (arc ∷ arcs) j h =
    let none : j + 0 ≡ j = omega arith in
    let at : arc_at all j ≡ arc = sym (ap (arc_at all) none) ∙ h 0 (omega arith) in
    row_step (p (ends_of arc)) (test (ends_of arc)) test n all arc j (numbers_from p (suc j) (map ends_of arcs)) _ at refl
    (sum_row p test n all arcs (suc j) (λ i low. let next : suc j + i ≡ j + suc i = omega arith in ap (arc_at all) next ∙ h (suc i) (omega arith)))

-- a sum that is split in three, arc by arc
three_step : (p a b c : Bool) (x y u v w : ℤ) → cond p x (pos 0) ≡ (cond a x (pos 0) +ℤ cond b x (pos 0)) +ℤ cond c x (pos 0) → y ≡ (u +ℤ v) +ℤ w →
    cond p x (pos 0) +ℤ y ≡ ((cond a x (pos 0) +ℤ u) +ℤ (cond b x (pos 0) +ℤ v)) +ℤ (cond c x (pos 0) +ℤ w)
three_step p a b c x y u v w e f = omega (arith, ints, e, f)

pub sum_three : (p a b c : ℕ × ℕ → Bool) (n : ℤ → ℤ → ℤ) →
    ((e : ℕ × ℕ) (x : ℤ) → cond (p e) x (pos 0) ≡ (cond (a e) x (pos 0) +ℤ cond (b e) x (pos 0)) +ℤ cond (c e) x (pos 0)) → (arcs : List AffineArc) →
    sum_where p (map ends_of arcs) (numbers_of n arcs)
    ≡ (sum_where a (map ends_of arcs) (numbers_of n arcs) +ℤ sum_where b (map ends_of arcs) (numbers_of n arcs)) +ℤ sum_where c (map ends_of arcs) (numbers_of n arcs)
sum_three p a b c n h [] = refl
sum_three p a b c n h (arc ∷ arcs) =
    three_step (p (ends_of arc)) (a (ends_of arc)) (b (ends_of arc)) (c (ends_of arc)) (n arc.a arc.b) _ _ _ _ (h (ends_of arc) (n arc.a arc.b)) (sum_three p a b c n h arcs)

-- one number of a row more
entering_step : (first here : Bool) (one : AffineArc) (xs ys : List AffineArc) (last : AffineArc) → xs ≡ ys ++ cond here (last ∷ []) [] →
    cond first (one ∷ xs) xs ≡ cond first (one ∷ ys) ys ++ cond here (last ∷ []) []
entering_step true here one xs ys last e = ap (λ (zs : List AffineArc). one ∷ zs) e
entering_step false here one xs ys last e = e

entering_first : (here : Bool) (one : AffineArc) → cond here (one ∷ []) [] ≡ [] ++ cond here (one ∷ []) []
entering_first true one = refl
entering_first false one = refl

entering_suc : (f : ℕ → ℕ) (arcs : List AffineArc) (i : ℕ) → i < length arcs →
    arcs_entering f (take (suc i) arcs) ≡ arcs_entering f (take i arcs) ++ cond (ltb (f (arc_at arcs i).tail) 2) (renamed f (arc_at arcs i) ∷ []) []
entering_suc f [] i low = absurd (omega arith)
entering_suc f (arc ∷ arcs) zero low = entering_first (ltb (f arc.tail) 2) (renamed f arc)
entering_suc f (arc ∷ arcs) (suc i) low =
    entering_step (ltb (f arc.tail) 2) (ltb (f (arc_at arcs i).tail) 2) (renamed f arc) _ _ (renamed f (arc_at arcs i)) (entering_suc f arcs i (omega arith))

pub outs_more : (f : ℕ → ℕ) (arcs before old new : List AffineArc) (k : ℕ) (loop : Bool) → k < length arcs → old ≡ before ++ arcs_between f (take k arcs) →
    loop ≡ eqb (f (arc_at arcs k).tail) (f (arc_at arcs k).head) → new ≡ old ++ cond loop [] (renamed f (arc_at arcs k) ∷ []) →
    new ≡ before ++ arcs_between f (take (k + 1) arcs)
outs_more f arcs before old new k loop low was is step =
    step ∙ ap (λ (xs : List AffineArc). xs ++ cond loop [] (renamed f (arc_at arcs k) ∷ [])) was
    ∙ ap (λ b. (before ++ arcs_between f (take k arcs)) ++ cond b [] (renamed f (arc_at arcs k) ∷ [])) is
    ∙ join_three before (arcs_between f (take k arcs)) (cond (eqb (f (arc_at arcs k).tail) (f (arc_at arcs k).head)) [] (renamed f (arc_at arcs k) ∷ []))
    ∙ ap (λ (xs : List AffineArc). before ++ xs) (sym (ap (λ n. arcs_between f (take n arcs)) (add-one k) ∙ between_suc f arcs k low))

pub ins_more : (f : ℕ → ℕ) (arcs before old new : List AffineArc) (k : ℕ) (here : Bool) → k < length arcs → old ≡ before ++ arcs_entering f (take k arcs) →
    here ≡ ltb (f (arc_at arcs k).tail) 2 → new ≡ old ++ cond here (renamed f (arc_at arcs k) ∷ []) [] →
    new ≡ before ++ arcs_entering f (take (k + 1) arcs)
ins_more f arcs before old new k here low was is step =
    step ∙ ap (λ (xs : List AffineArc). xs ++ cond here (renamed f (arc_at arcs k) ∷ []) []) was
    ∙ ap (λ b. (before ++ arcs_entering f (take k arcs)) ++ cond b (renamed f (arc_at arcs k) ∷ []) []) is
    ∙ join_three before (arcs_entering f (take k arcs)) (cond (ltb (f (arc_at arcs k).tail) 2) (renamed f (arc_at arcs k) ∷ []) [])
    ∙ ap (λ (xs : List AffineArc). before ++ xs) (sym (ap (λ n. arcs_entering f (take n arcs)) (add-one k) ∙ entering_suc f arcs k low))

-- the numbers in a node's rows are those of arcs
pub known_out : (net : Network) (v : ℕ) (row : List ℕ) → row ≡ arcs_out (digraph_of net) v → (k : ℕ) → k < length row → get_or row k 0 < length net.arcs
known_out net v row e k low =
    let here : k < length (arcs_out (digraph_of net) v) = omega (arith, low, ap length e) in
    let there = (out_number (digraph_of net) v k here).in_range in
    let is = ap (λ (xs : List ℕ). get_or xs k 0) e in
    omega (arith, there, is, length-map net.arcs ends_of)

pub known_in : (net : Network) (v : ℕ) (row : List ℕ) → row ≡ arcs_in (digraph_of net) v → (k : ℕ) → k < length row → get_or row k 0 < length net.arcs
known_in net v row e k low =
    let here : k < length (arcs_in (digraph_of net) v) = omega (arith, low, ap length e) in
    let there = (in_number (digraph_of net) v k here).in_range in
    let is = ap (λ (xs : List ℕ). get_or xs k 0) e in
    omega (arith, there, is, length-map net.arcs ends_of)
