-- What each vertex is given, edge by edge.
use Rattle.std.proofs.Common.{◌≡◌, ℕ, ◌+◌, ◌*◌, ◌^◌, ◌<◌, ◌≤◌, List, [], ◌∷◌, ◌++◌, length, get_or, set, subst, below_more, length-append, take, replicate, refl, Bool, true, false, cond, eqb, arith, ap, sym, ◌∙◌}
use Rattle.std.specs.Prelude.{ℤ, ◌+ℤ◌, ◌-ℤ◌, ◌≤ℤ◌, ◌<ℤ◌, pos}
use Rattle.std.proofs.Math.ListN.{get_or-append}
use Rattle.std.proofs.Math.Seq.{get_or-append_seam}
use Rattle.std.proofs.lemmas.Int.{ints}
use Rattle.pf_model.specs.Cut.{at_arc}
use Rattle.pf_model.specs.Digraph.{Digraph}
use Rattle.pf_model.proofs.Sums.{sum_where_more, sum_all}
use Rattle.pf_model.specs.Fraction.{Fraction}
use Rattle.pf_frame.specs.Lending.{row_at}
use Rattle.pf_graph.specs.WeightedGraph.{WeightedGraph, digraph_of, total}
use Rattle.pf_frame.proofs.Balances.{HasBalances, balances_start, raised, raised_length}
use Rattle.pf_forest.specs.Forest.{IsSplit, AreSplits, AddsSplits, given}

cond_minus : (here : Bool) (x y : ℤ) → cond here (x -ℤ y) (pos 0) ≡ cond here x (pos 0) -ℤ cond here y (pos 0)
cond_minus true x y = refl
cond_minus false x y = refl

given_more : (ends : List (ℕ × ℕ)) (vector shares : List ℤ) (i u w v : ℕ) → length vector ≡ length ends → length shares ≡ length ends → i < length ends →
    u ≡ (get_or ends i (0, 0)).0 → w ≡ (get_or ends i (0, 0)).1 →
    given (take (i + 1) ends) (take (i + 1) vector) (take (i + 1) shares) v
    ≡ (given (take i ends) (take i vector) (take i shares) v +ℤ cond (eqb u v) (at_arc shares i) (pos 0)) +ℤ cond (eqb w v) (at_arc vector i -ℤ at_arc shares i) (pos 0)
given_more ends vector shares i u w v full full' low tail head =
    let out = sum_where_more (λ arc. eqb arc.0 v) ends shares i full' low in
    let into = sum_where_more (λ arc. eqb arc.1 v) ends vector i full low in
    let less = sum_where_more (λ arc. eqb arc.1 v) ends shares i full' low in
    let e = cond_minus (eqb (get_or ends i (0, 0)).1 v) (at_arc vector i) (at_arc shares i) in
    rw (tail, head) (omega (arith, ints, out, into, less, e))

-- the sums of the vertices over the first edges, and a bound that so many edges give
pub record HasGiven (nodes : ℕ) (ends : List (ℕ × ℕ)) (vector shares sums : List ℤ) (i : ℕ) : Type 0 where
  pub places : nodes ≤ length sums
  pub sums_are : (v : ℕ) → v < nodes → at_arc sums v ≡ given (take i ends) (take i vector) (take i shares) v
  pub low : (v : ℕ) → v < nodes → (pos 0 -ℤ pos (i * 2 ^ 104)) ≤ℤ at_arc sums v
  pub high : (v : ℕ) → v < nodes → at_arc sums v ≤ℤ pos (i * 2 ^ 104)

one_more : (a b x y : ℤ) (i : ℕ) (p q : Bool) → b ≡ (a +ℤ cond p x (pos 0)) +ℤ cond q (y -ℤ x) (pos 0) → pos 0 ≤ℤ x → x ≤ℤ y → y <ℤ pos (2 ^ 104) →
    (pos 0 -ℤ pos (i * 2 ^ 104)) ≤ℤ a → a ≤ℤ pos (i * 2 ^ 104) → ((pos 0 -ℤ pos ((i + 1) * 2 ^ 104)) ≤ℤ b) × (b ≤ℤ pos ((i + 1) * 2 ^ 104))
one_more a b x y i true true e low high top l h = (omega (arith, ints), omega (arith, ints))
one_more a b x y i true false e low high top l h = (omega (arith, ints), omega (arith, ints))
one_more a b x y i false true e low high top l h = (omega (arith, ints), omega (arith, ints))
one_more a b x y i false false e low high top l h = (omega (arith, ints), omega (arith, ints))

nothing_given : (ends : List (ℕ × ℕ)) (vector shares : List ℤ) (v : ℕ) → given (take 0 ends) (take 0 vector) (take 0 shares) v ≡ pos 0
nothing_given ends vector shares v = refl

pub gives_start : (nodes : ℕ) (ends : List (ℕ × ℕ)) (vector shares sums : List ℤ) (n : ℕ) → sums ≡ replicate n (pos 0) → nodes ≤ n → HasGiven nodes ends vector shares sums 0
gives_start nodes ends vector shares sums n e room =
    let b : HasBalances nodes ends vector sums 0 = balances_start nodes ends vector sums n e room in
    record {
      places = b.places;
      sums_are = λ v h. b.sums_are v h ∙ sym (nothing_given ends vector shares v);
      low = b.low;
      high = b.high;
    }

pub gives_more : (nodes : ℕ) (ends : List (ℕ × ℕ)) (vector shares sums sums' sums'' : List ℤ) (i u w : ℕ) (x y : ℤ) → HasGiven nodes ends vector shares sums i →
    length vector ≡ length ends → length shares ≡ length ends → i < length ends → u ≡ (get_or ends i (0, 0)).0 → w ≡ (get_or ends i (0, 0)).1 → u < nodes → w < nodes →
    pos 0 ≤ℤ at_arc shares i → at_arc shares i ≤ℤ at_arc vector i → at_arc vector i <ℤ pos (2 ^ 104) → x ≡ at_arc shares i → y ≡ at_arc vector i -ℤ at_arc shares i →
    sums' ≡ set sums u (at_arc sums u +ℤ x) → sums'' ≡ set sums' w (at_arc sums' w +ℤ y) → HasGiven nodes ends vector shares sums'' (i + 1)
gives_more nodes ends vector shares sums sums' sums'' i u w x y b full full' low tail head low_u low_w least most top is_x is_y e e' =
    let places = b.places in
    let l = raised_length sums sums' u _ e in
    let l' = raised_length sums' sums'' w _ e' in
    let step : (v : ℕ) → at_arc sums'' v ≡ (at_arc sums v +ℤ cond (eqb u v) (at_arc shares i) (pos 0)) +ℤ cond (eqb w v) (at_arc vector i -ℤ at_arc shares i) (pos 0) =
    λ v.
    let here = raised sums sums' u v x e (omega arith) in
    let there = raised sums' sums'' w v y e' (omega arith) in
    let first = ap (λ z. cond (eqb u v) z (pos 0)) is_x in
    let second = ap (λ z. cond (eqb w v) z (pos 0)) is_y in
    omega (arith, ints, here, there, first, second) in
    record {
      places = omega arith;
      sums_are = λ v h.
          let s = b.sums_are v h in
          let t = step v in
          let more = given_more ends vector shares i u w v full full' low tail head in
          omega (arith, ints, s, t, more);
      low = λ v h. (one_more _ _ (at_arc shares i) (at_arc vector i) i (eqb u v) (eqb w v) (step v) least most top (b.low v h) (b.high v h)).0;
      high = λ v h. (one_more _ _ (at_arc shares i) (at_arc vector i) i (eqb u v) (eqb w v) (step v) least most top (b.low v h) (b.high v h)).1;
    }

pub gives_all : (nodes : ℕ) (ends : List (ℕ × ℕ)) (vector shares sums : List ℤ) (i : ℕ) → HasGiven nodes ends vector shares sums i → length vector ≡ length ends →
    length shares ≡ length ends → length ends ≤ i → (v : ℕ) → v < nodes → at_arc sums v ≡ given ends vector shares v
gives_all nodes ends vector shares sums i b full full' done v low =
    let s = b.sums_are v low in
    let out = sum_all (λ arc. eqb arc.0 v) ends shares i full' done in
    let into = sum_all (λ arc. eqb arc.1 v) ends vector i full done in
    let less = sum_all (λ arc. eqb arc.1 v) ends shares i full' done in
    omega (arith, ints, s, out, into, less)

-- the sum of the first numbers, and a bound that so many give
pub record HasTotal (ends : List (ℕ × ℕ)) (vector : List ℤ) (i : ℕ) (sum : ℤ) : Type 0 where
  pub is : sum ≡ total (take i ends) (take i vector)
  pub low : pos 0 ≤ℤ sum
  pub high : sum ≤ℤ pos (i * 2 ^ 104)

pub total_starts : (ends : List (ℕ × ℕ)) (vector : List ℤ) → HasTotal ends vector 0 (pos 0)
total_starts ends vector = record { is = refl; low = omega (arith, ints); high = omega (arith, ints) }

pub total_more : (ends : List (ℕ × ℕ)) (vector : List ℤ) (i : ℕ) (sum sum' : ℤ) → length vector ≡ length ends → i < length ends → HasTotal ends vector i sum →
    pos 0 ≤ℤ at_arc vector i → at_arc vector i <ℤ pos (2 ^ 104) → sum' ≡ sum +ℤ at_arc vector i → HasTotal ends vector (i + 1) sum'
total_more ends vector i sum sum' full here h least top e =
    let more = sum_where_more (λ edge. true) ends vector i full here in
    let is = h.is in
    let low = h.low in
    let high = h.high in
    record {
      is = omega (arith, ints, more, is, e);
      low = omega (arith, ints, low, least, e);
      high = omega (arith, ints, high, top, e);
    }

pub total_all : (ends : List (ℕ × ℕ)) (vector : List ℤ) (i : ℕ) (sum : ℤ) → length vector ≡ length ends → length ends ≤ i → HasTotal ends vector i sum → sum ≡ total ends vector
total_all ends vector i sum full done h = h.is ∙ sum_all (λ edge. true) ends vector i full done

-- one row more is a split
pub splits_more : (g : WeightedGraph) (frame : Digraph) (x : Fraction) (limit : ℤ) (vector : List ℤ) (splits : List (List ℤ)) (first r : ℕ) (shares : List ℤ) → frame ≡ digraph_of g →
    limit ≡ x.p → shares ≡ row_at splits (first + r) → IsSplit frame limit vector shares r → AreSplits g x vector splits first r → AreSplits g x vector splits first (r + 1)
splits_more g frame x limit vector splits first r shares e f a s all =
    let P : Digraph → Type 0 = λ h. IsSplit h limit vector shares r in
    let Q : ℤ → Type 0 = λ l. IsSplit (digraph_of g) l vector shares r in
    let R : List ℤ → Type 0 = λ l. IsSplit (digraph_of g) x.p vector l r in
    record { each = below_more (λ k. IsSplit (digraph_of g) x.p vector (row_at splits (first + k)) k) r all.each (subst R a (subst Q f (subst P e s))) }

pub adds_more : (g : WeightedGraph) (x : Fraction) (vector : List ℤ) (old table table' : List (List ℤ)) (r : ℕ) (shares : List ℤ) → AddsSplits g x vector old table r →
    table' ≡ table ++ shares ∷ [] → IsSplit (digraph_of g) x.p vector shares r → AddsSplits g x vector old table' (r + 1)
adds_more g x vector old table table' r shares a e s =
    let count = a.rows in
    let stays : (k : ℕ) → k < length table → row_at table' k ≡ row_at table k = λ k low. ap (λ t. row_at t k) e ∙ get_or-append table (shares ∷ []) [] k low in
    let here : row_at table' (length old + r) ≡ shares =
    ap (λ t. row_at t (length old + r)) e ∙ ap (λ k. row_at (table ++ shares ∷ []) k) (sym count) ∙ get_or-append_seam table shares [] [] in
    let R : List ℤ → Type 0 = λ l. IsSplit (digraph_of g) x.p vector l r in
    record {
      rows = ap length e ∙ length-append table (shares ∷ []) ∙ omega (arith, count);
      kept = λ k low. stays k (omega (arith, low, count)) ∙ a.kept k low;
      splits = record {
        each = below_more (λ k. IsSplit (digraph_of g) x.p vector (row_at table' (length old + k)) k) r
            (λ k low.
            let Q : List ℤ → Type 0 = λ l. IsSplit (digraph_of g) x.p vector l k in
            subst Q (sym (stays (length old + k) (omega (arith, low, count)))) (a.splits.each k low))
            (subst R (sym here) s);
      };
    }
