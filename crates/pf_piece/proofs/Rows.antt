-- One node more: the arcs that belong to it are those of its two rows.
use Rattle.std.proofs.Common.{◌≡◌, ◌≢◌, ℕ, suc, ◌+◌, ◌<◌, ◌≤◌, List, [], ◌∷◌, ◌++◌, length, get_or, take, map, refl, Bool, true, false, cond, not, ◌&&◌, ◌||◌, eqb, ltb, zero-add, arith, ap, ap₂, sym, ◌∙◌, subst, inl, inr}
use Rattle.std.specs.Prelude.{ℤ, ◌+ℤ◌, pos, All}
use Rattle.std.proofs.lemmas.Int.{ints}
use Rattle.std.proofs.lemmas.Bool.{cases_lt, cases_eq, eqb-true, eq-eqb, ne_eqb, lt-ltb, le-ltb, ltb-true, ltb-false}
use Rattle.std.proofs.lemmas.List.{length-map, get_or-map}
use Rattle.std.proofs.lemmas.List.Elements.{All-nil, All-cons, All-append}
use Rattle.pf_model.specs.declared.AffineArc.{AffineArc}
use Rattle.pf_model.specs.Cut.{sum_where}
use Rattle.pf_model.specs.Digraph.{arcs_out, arcs_in}
use Rattle.pf_model.specs.Network.{Network, ends_of}
use Rattle.pf_model.proofs.Affine.{no_arc}
use Rattle.pf_model.proofs.Facts.{off_both, or_left, or_right}
use Rattle.pf_model.proofs.Numbers.{out_number, in_number}
use Rattle.pf_model.proofs.Sums.{sum_where_same, sum_where_none}
use Rattle.pf_net.specs.Limits.{digraph_of}
use Rattle.pf_piece.specs.Piece.{renamed, arcs_between}
use Rattle.pf_piece.specs.Held.{arc_at}
use Rattle.pf_piece.specs.Cores.{IsGathered, IsInnerArc, numbers_of, arcs_entering, belongs_below}
use Rattle.pf_piece.proofs.Openings.{tail_here, head_here}
use Rattle.pf_piece.proofs.Gathered.{sum_append, sum_between, sum_entering, sum_row, sum_three, outs_more, ins_more}

-- one number of a row more, where the arc was read by its number
read_here : (f : ℕ → ℕ) (all : List AffineArc) (row : List ℕ) (one : AffineArc) (k : ℕ) → k < length row →
    one ≡ renamed f (arc_at all (get_or row k 0)) → one ≡ renamed f (arc_at (map (λ i. arc_at all i) row) k)
read_here f all row one k low is = is ∙ ap (renamed f) (sym (get_or-map (λ i. arc_at all i) row k 0 no_arc low))

pub outs_row : (f : ℕ → ℕ) (all : List AffineArc) (row : List ℕ) (before old new : List AffineArc) (one : AffineArc) (k : ℕ) (loop : Bool) → k < length row →
    old ≡ before ++ arcs_between f (take k (map (λ i. arc_at all i) row)) → one ≡ renamed f (arc_at all (get_or row k 0)) → loop ≡ eqb one.tail one.head →
    new ≡ old ++ cond loop [] (one ∷ []) → new ≡ before ++ arcs_between f (take (k + 1) (map (λ i. arc_at all i) row))
outs_row f all row before old new one k loop low was is told step =
    let here = read_here f all row one k low is in
    outs_more f (map (λ i. arc_at all i) row) before old new k loop (omega (arith, low, length-map row (λ i. arc_at all i))) was
    (told ∙ ap (λ (arc : AffineArc). eqb arc.tail arc.head) here) (step ∙ ap (λ (arc : AffineArc). old ++ cond loop [] (arc ∷ [])) here)

pub ins_row : (f : ℕ → ℕ) (all : List AffineArc) (row : List ℕ) (before old new : List AffineArc) (one : AffineArc) (k : ℕ) (here : Bool) → k < length row →
    old ≡ before ++ arcs_entering f (take k (map (λ i. arc_at all i) row)) → one ≡ renamed f (arc_at all (get_or row k 0)) → here ≡ ltb one.tail 2 →
    new ≡ old ++ cond here (one ∷ []) [] → new ≡ before ++ arcs_entering f (take (k + 1) (map (λ i. arc_at all i) row))
ins_row f all row before old new one k here low was is told step =
    let same = read_here f all row one k low is in
    ins_more f (map (λ i. arc_at all i) row) before old new k here (omega (arith, low, length-map row (λ i. arc_at all i))) was
    (told ∙ ap (λ (arc : AffineArc). ltb arc.tail 2) same) (step ∙ ap (λ (arc : AffineArc). old ++ cond here (arc ∷ []) []) same)

-- the nodes below v + 1 are those below v, and v
below_next : (u v : ℕ) → ltb u (v + 1) ≡ (ltb u v || eqb u v)
below_next u v = elim (cases_lt u v) [
  | inl less ↦ lt-ltb u (v + 1) (omega arith) ∙ sym (ap (λ b. b || eqb u v) (lt-ltb u v less))
  | inr most ↦ elim (cases_eq u v) [
    | inl same ↦ lt-ltb u (v + 1) (omega arith) ∙ sym (ap₂ (λ b c. b || c) (le-ltb u v most) (eq-eqb u v same))
    | inr other ↦ le-ltb u (v + 1) (omega (arith, most, other)) ∙ sym (ap₂ (λ b c. b || c) (le-ltb u v most) (ne_eqb u v other))
  ]
]

not_both : (u v : ℕ) → (ltb u v && eqb u v) ≡ false
not_both u v = elim (cases_lt u v) [
  | inl less ↦ let other : u ≢ v = λ e. omega (arith, e, less) in ap₂ (λ b c. b && c) (lt-ltb u v less) (ne_eqb u v other)
  | inr most ↦ ap (λ b. b && eqb u v) (le-ltb u v most)
]

small_told : (p : ℕ) → ltb p 2 ≡ not (ltb 1 p)
small_told p = elim (cases_lt 1 p) [
  | inl more ↦ le-ltb p 2 (omega arith) ∙ sym (ap not (lt-ltb 1 p more))
  | inr few ↦ lt-ltb p 2 (omega arith) ∙ sym (ap not (le-ltb 1 p few))
]

-- a node that 0 or 1 stands for has no arcs of its own
low_same : (f : ℕ → ℕ) (u v : ℕ) → f v < 2 → ltb 1 (f u) ≡ true → ltb u (v + 1) ≡ ltb u v
low_same f u v low inner = elim (cases_lt u v) [
  | inl less ↦ lt-ltb u (v + 1) (omega arith) ∙ sym (lt-ltb u v less)
  | inr most ↦
      let more = ltb-true 1 (f u) inner in
      let other : u ≢ v = λ e. let same = ap f e in omega (arith, same, more, low) in
      le-ltb u (v + 1) (omega (arith, most, other)) ∙ sym (le-ltb u v most)
]

same_step : (loop i j a b a' b' : Bool) → (i ≡ true → a' ≡ a) → (j ≡ true → b' ≡ b) → (not loop && cond i a' (j && b')) ≡ (not loop && cond i a (j && b))
same_step true i j a b a' b' h k = refl
same_step false true j a b a' b' h k = h refl
same_step false false true a b a' b' h k = k refl
same_step false false false a b a' b' h k = refl

below_same : (f : ℕ → ℕ) (v : ℕ) → f v < 2 → (e : ℕ × ℕ) → belongs_below f (v + 1) e ≡ belongs_below f v e
below_same f v low e =
    same_step (eqb (f e.0) (f e.1)) (ltb 1 (f e.0)) (ltb 1 (f e.1)) (ltb e.0 v) (ltb e.1 v) (ltb e.0 (v + 1)) (ltb e.1 (v + 1))
    (low_same f e.0 v low) (low_same f e.1 v low)

pub gathered_still : (f : ℕ → ℕ) (v : ℕ) (arcs old : List AffineArc) → IsGathered f v arcs old → f v < 2 → IsGathered f (v + 1) arcs old
gathered_still f v arcs old h low = record {
  sums = λ test n.
      h.sums test n
      ∙ sum_where_same (λ e. belongs_below f v e && test (f e.0, f e.1)) (λ e. belongs_below f (v + 1) e && test (f e.0, f e.1)) (map ends_of arcs) (numbers_of n arcs)
      (λ e. ap (λ b. b && test (f e.0, f e.1)) (sym (below_same f v low e)));
  each = h.each;
}

-- no arc belongs to a node below 0
none_step : (loop i j a b : Bool) → a ≡ false → b ≡ false → (not loop && cond i a (j && b)) ≡ false
none_step true i j a b e f = refl
none_step false true j a b e f = e
none_step false false true a b e f = f
none_step false false false a b e f = refl

none_below : (f : ℕ → ℕ) (e : ℕ × ℕ) → belongs_below f 0 e ≡ false
none_below f e =
    none_step (eqb (f e.0) (f e.1)) (ltb 1 (f e.0)) (ltb 1 (f e.1)) (ltb e.0 0) (ltb e.1 0) (le-ltb e.0 0 (omega arith)) (le-ltb e.1 0 (omega arith))

pub gathered_begins : (f : ℕ → ℕ) (arcs none : List AffineArc) → none ≡ [] → IsGathered f 0 arcs none
gathered_begins f arcs none is = subst (IsGathered f 0 arcs) (sym is) (record {
  sums = λ test n.
      sym (sum_where_none (λ e. belongs_below f 0 e && test (f e.0, f e.1)) (map ends_of arcs) (numbers_of n arcs)
      (λ e. off_both (belongs_below f 0 e) (test (f e.0, f e.1)) (none_below f e)));
  each = All-nil (IsInnerArc f arcs);
})

-- An arc that belongs to a node below v + 1 belongs to one below v, or leaves v, or enters it from 0 or 1, and only one of these. The tests: the tail
-- stands beside 0 and 1, the arc becomes a loop, the head stands beside, the further test, the tail is below v, it is v, the head is below v, it is v.
split_step : (i loop j t l s m r : Bool) (x : ℤ) → (l && s) ≡ false → (m && r) ≡ false → (s ≡ true → i ≡ true) → (r ≡ true → j ≡ true) →
    (r ≡ true → i ≡ false → loop ≡ false) →
    cond ((not loop && cond i (l || s) (j && (m || r))) && t) x (pos 0)
    ≡ (cond ((not loop && cond i l (j && m)) && t) x (pos 0) +ℤ cond (s && (not loop && t)) x (pos 0)) +ℤ cond (r && (not i && t)) x (pos 0)
split_step true true j t l true m true x a b c d e = omega (arith, ints)
split_step true true j t l true m false x a b c d e = omega (arith, ints)
split_step true true j t l false m true x a b c d e = omega (arith, ints)
split_step true true j t l false m false x a b c d e = omega (arith, ints)
split_step true false j t true true m r x a b c d e = absurd cc
split_step true false j t false true m true x a b c d e = omega (arith, ints)
split_step true false j t false true m false x a b c d e = omega (arith, ints)
split_step true false j t true false m true x a b c d e = omega (arith, ints)
split_step true false j t true false m false x a b c d e = omega (arith, ints)
split_step true false j t false false m true x a b c d e = omega (arith, ints)
split_step true false j t false false m false x a b c d e = omega (arith, ints)
split_step false loop j t l true m r x a b c d e = absurd (let f = c refl in cc)
split_step false loop j t l false true true x a b c d e = absurd cc
split_step false true j t l false false true x a b c d e = absurd (let f = e refl refl in cc)
split_step false false true t l false false true x a b c d e = omega (arith, ints)
split_step false false false t l false false true x a b c d e = absurd (let f = d refl in cc)
split_step false true j t l false m false x a b c d e = omega (arith, ints)
split_step false false true t l false true false x a b c d e = omega (arith, ints)
split_step false false true t l false false false x a b c d e = omega (arith, ints)
split_step false false false t l false m false x a b c d e = omega (arith, ints)

split_told : (i loop j t l s m r l' m' small : Bool) (x : ℤ) → l' ≡ (l || s) → m' ≡ (m || r) → small ≡ not i → (l && s) ≡ false → (m && r) ≡ false →
    (s ≡ true → i ≡ true) → (r ≡ true → j ≡ true) → (r ≡ true → i ≡ false → loop ≡ false) →
    cond ((not loop && cond i l' (j && m')) && t) x (pos 0)
    ≡ (cond ((not loop && cond i l (j && m)) && t) x (pos 0) +ℤ cond (s && (not loop && t)) x (pos 0)) +ℤ cond (r && (small && t)) x (pos 0)
split_told i loop j t l s m r l' m' small x e f g a b c d h = rw (e, f, g) (split_step i loop j t l s m r x a b c d h)

stands_beside : (f : ℕ → ℕ) (u v : ℕ) → 2 ≤ f v → eqb u v ≡ true → ltb 1 (f u) ≡ true
stands_beside f u v inner e = let same = ap f (eqb-true u v e) in lt-ltb 1 (f u) (omega (arith, same, inner))

no_loop : (p q : ℕ) → ltb 1 q ≡ true → ltb 1 p ≡ false → eqb p q ≡ false
no_loop p q e f =
    let more = ltb-true 1 q e in
    let few = ltb-false 1 p f in
    ne_eqb p q (λ same. omega (arith, same, more, few))

split_at : (f : ℕ → ℕ) (v : ℕ) (test : ℕ × ℕ → Bool) → 2 ≤ f v → (e : ℕ × ℕ) (x : ℤ) →
    cond (belongs_below f (v + 1) e && test (f e.0, f e.1)) x (pos 0)
    ≡ (cond (belongs_below f v e && test (f e.0, f e.1)) x (pos 0) +ℤ cond (eqb e.0 v && (not (eqb (f e.0) (f e.1)) && test (f e.0, f e.1))) x (pos 0))
    +ℤ cond (eqb e.1 v && (ltb (f e.0) 2 && test (f e.0, f e.1))) x (pos 0)
split_at f v test inner e x =
    split_told (ltb 1 (f e.0)) (eqb (f e.0) (f e.1)) (ltb 1 (f e.1)) (test (f e.0, f e.1)) (ltb e.0 v) (eqb e.0 v) (ltb e.1 v) (eqb e.1 v)
    (ltb e.0 (v + 1)) (ltb e.1 (v + 1)) (ltb (f e.0) 2) x (below_next e.0 v) (below_next e.1 v) (small_told (f e.0)) (not_both e.0 v) (not_both e.1 v)
    (stands_beside f e.0 v inner) (stands_beside f e.1 v inner) (λ h k. no_loop (f e.0) (f e.1) (stands_beside f e.1 v inner h) k)

abbrev outs_of : (ℕ → ℕ) → Network → ℕ → List AffineArc
outs_of f net v = arcs_between f (map (λ i. arc_at net.arcs i) (arcs_out (digraph_of net) v))

abbrev ins_of : (ℕ → ℕ) → Network → ℕ → List AffineArc
ins_of f net v = arcs_entering f (map (λ i. arc_at net.arcs i) (arcs_in (digraph_of net) v))

sum_outs : (f : ℕ → ℕ) (net : Network) (v : ℕ) (test : ℕ × ℕ → Bool) (n : ℤ → ℤ → ℤ) →
    sum_where test (map ends_of (outs_of f net v)) (numbers_of n (outs_of f net v))
    ≡ sum_where (λ e. eqb e.0 v && (not (eqb (f e.0) (f e.1)) && test (f e.0, f e.1))) (map ends_of net.arcs) (numbers_of n net.arcs)
sum_outs f net v test n =
    sum_between f test n (map (λ i. arc_at net.arcs i) (arcs_out (digraph_of net) v))
    ∙ sum_row (λ e. eqb e.0 v) (λ e. not (eqb (f e.0) (f e.1)) && test (f e.0, f e.1)) n net.arcs net.arcs 0 (λ i low. ap (arc_at net.arcs) (zero-add i))

sum_ins : (f : ℕ → ℕ) (net : Network) (v : ℕ) (test : ℕ × ℕ → Bool) (n : ℤ → ℤ → ℤ) →
    sum_where test (map ends_of (ins_of f net v)) (numbers_of n (ins_of f net v))
    ≡ sum_where (λ e. eqb e.1 v && (ltb (f e.0) 2 && test (f e.0, f e.1))) (map ends_of net.arcs) (numbers_of n net.arcs)
sum_ins f net v test n =
    sum_entering f test n (map (λ i. arc_at net.arcs i) (arcs_in (digraph_of net) v))
    ∙ sum_row (λ e. eqb e.1 v) (λ e. ltb (f e.0) 2 && test (f e.0, f e.1)) n net.arcs net.arcs 0 (λ i low. ap (arc_at net.arcs) (zero-add i))

sums_more : (f : ℕ → ℕ) (net : Network) (v : ℕ) (old : List AffineArc) → IsGathered f v net.arcs old → 2 ≤ f v → (test : ℕ × ℕ → Bool) (n : ℤ → ℤ → ℤ) →
    sum_where test (map ends_of ((old ++ outs_of f net v) ++ ins_of f net v)) (numbers_of n ((old ++ outs_of f net v) ++ ins_of f net v))
    ≡ sum_where (λ e. belongs_below f (v + 1) e && test (f e.0, f e.1)) (map ends_of net.arcs) (numbers_of n net.arcs)
sums_more f net v old h inner test n =
    sum_append test n (old ++ outs_of f net v) (ins_of f net v)
    ∙ ap₂ (λ x y. x +ℤ y)
    (sum_append test n old (outs_of f net v) ∙ ap₂ (λ x y. x +ℤ y) (h.sums test n) (sum_outs f net v test n))
    (sum_ins f net v test n)
    ∙ sym (sum_three (λ e. belongs_below f (v + 1) e && test (f e.0, f e.1)) (λ e. belongs_below f v e && test (f e.0, f e.1))
    (λ e. eqb e.0 v && (not (eqb (f e.0) (f e.1)) && test (f e.0, f e.1))) (λ e. eqb e.1 v && (ltb (f e.0) 2 && test (f e.0, f e.1))) n
    (split_at f v test inner) net.arcs)

-- the number of an arc at a node that another one than 0 and 1 stands for
record IsHere (f : ℕ → ℕ) (arcs : List AffineArc) (i : ℕ) : Type 0 where
  pub known : i < length arcs
  pub inner : (ltb 1 (f (arc_at arcs i).tail) || ltb 1 (f (arc_at arcs i).head)) ≡ true

here_arc : (f : ℕ → ℕ) (arcs : List AffineArc) (i : ℕ) → IsHere f arcs i → IsInnerArc f arcs (renamed f (arc_at arcs i))
here_arc f arcs i h = record { number = i; known = h.known; arc_is = refl; inner = h.inner }

outs_step : (P : AffineArc → Type 0) (loop : Bool) (first : AffineArc) (rest : List AffineArc) → P first → All P rest → All P (cond loop rest (first ∷ rest))
outs_step P true first rest h each = each
outs_step P false first rest h each = All-cons P first rest h each

ins_step : (P : AffineArc → Type 0) (here : Bool) (first : AffineArc) (rest : List AffineArc) → P first → All P rest → All P (cond here (first ∷ rest) rest)
ins_step P true first rest h each = All-cons P first rest h each
ins_step P false first rest h each = each

each_out : (f : ℕ → ℕ) (arcs : List AffineArc) (row : List ℕ) → ((k : ℕ) → k < length row → IsHere f arcs (get_or row k 0)) →
    All (IsInnerArc f arcs) (arcs_between f (map (λ i. arc_at arcs i) row))
each_out f arcs [] h = All-nil (IsInnerArc f arcs)
each_out f arcs (i ∷ row) h =
    outs_step (IsInnerArc f arcs) (eqb (f (arc_at arcs i).tail) (f (arc_at arcs i).head)) (renamed f (arc_at arcs i)) (arcs_between f (map (λ i. arc_at arcs i) row))
    (here_arc f arcs i (h 0 (omega arith))) (each_out f arcs row (λ k low. h (suc k) (omega arith)))

each_in : (f : ℕ → ℕ) (arcs : List AffineArc) (row : List ℕ) → ((k : ℕ) → k < length row → IsHere f arcs (get_or row k 0)) →
    All (IsInnerArc f arcs) (arcs_entering f (map (λ i. arc_at arcs i) row))
each_in f arcs [] h = All-nil (IsInnerArc f arcs)
each_in f arcs (i ∷ row) h =
    ins_step (IsInnerArc f arcs) (ltb (f (arc_at arcs i).tail) 2) (renamed f (arc_at arcs i)) (arcs_entering f (map (λ i. arc_at arcs i) row))
    (here_arc f arcs i (h 0 (omega arith))) (each_in f arcs row (λ k low. h (suc k) (omega arith)))

out_here : (f : ℕ → ℕ) (net : Network) (v : ℕ) → 2 ≤ f v → (k : ℕ) → k < length (arcs_out (digraph_of net) v) →
    IsHere f net.arcs (get_or (arcs_out (digraph_of net) v) k 0)
out_here f net v inner k low =
    let there = out_number (digraph_of net) v k low in
    let known : get_or (arcs_out (digraph_of net) v) k 0 < length net.arcs = (let in_range = there.in_range in omega (arith, in_range, length-map net.arcs ends_of)) in
    let tail = sym (tail_here net.arcs (get_or (arcs_out (digraph_of net) v) k 0) known) ∙ there.from in
    record { known = known; inner = or_left _ _ (ap (λ u. ltb 1 (f u)) tail ∙ lt-ltb 1 (f v) (omega (arith, inner))) }

in_here : (f : ℕ → ℕ) (net : Network) (v : ℕ) → 2 ≤ f v → (k : ℕ) → k < length (arcs_in (digraph_of net) v) →
    IsHere f net.arcs (get_or (arcs_in (digraph_of net) v) k 0)
in_here f net v inner k low =
    let there = in_number (digraph_of net) v k low in
    let known : get_or (arcs_in (digraph_of net) v) k 0 < length net.arcs = (let in_range = there.in_range in omega (arith, in_range, length-map net.arcs ends_of)) in
    let head = sym (head_here net.arcs (get_or (arcs_in (digraph_of net) v) k 0) known) ∙ there.to in
    record { known = known; inner = or_right _ _ (ap (λ u. ltb 1 (f u)) head ∙ lt-ltb 1 (f v) (omega (arith, inner))) }

pub gathered_more : (f : ℕ → ℕ) (net : Network) (v : ℕ) (outs ins : List ℕ) (old mid new : List AffineArc) → IsGathered f v net.arcs old → 2 ≤ f v →
    outs ≡ arcs_out (digraph_of net) v → ins ≡ arcs_in (digraph_of net) v → mid ≡ old ++ arcs_between f (map (λ i. arc_at net.arcs i) outs) →
    new ≡ mid ++ arcs_entering f (map (λ i. arc_at net.arcs i) ins) → IsGathered f (v + 1) net.arcs new
gathered_more f net v outs ins old mid new h inner out_row in_row mid_is new_is =
    let first : mid ≡ old ++ outs_of f net v = mid_is ∙ ap (λ (row : List ℕ). old ++ arcs_between f (map (λ i. arc_at net.arcs i) row)) out_row in
    let second : new ≡ (old ++ outs_of f net v) ++ ins_of f net v =
    new_is ∙ ap₂ (λ (xs : List AffineArc) (row : List ℕ). xs ++ arcs_entering f (map (λ i. arc_at net.arcs i) row)) first in_row in
    subst (IsGathered f (v + 1) net.arcs) (sym second) (record {
      sums = sums_more f net v old h inner;
      each = All-append (IsInnerArc f net.arcs) (old ++ outs_of f net v) (ins_of f net v)
          (All-append (IsInnerArc f net.arcs) old (outs_of f net v) h.each (each_out f net.arcs (arcs_out (digraph_of net) v) (out_here f net v inner)))
          (each_in f net.arcs (arcs_in (digraph_of net) v) (in_here f net v inner));
    })
