-- Best partitions become finer as the level rises.
use Rattle.std.proofs.Common.{◌≡◌, ◌≢◌, ℕ, zero, suc, ◌+◌, ◌<◌, ◌≤◌, List, [], ◌∷◌, length, get_or, refl, Bool, true, false, cond, eqb, not, ◌&&◌, ◌-◌, arith, ap, sym, ◌∙◌, inl, inr}
use Rattle.std.specs.Prelude.{ℤ, ◌+ℤ◌, ◌-ℤ◌, ◌*ℤ◌, ◌≤ℤ◌, ◌<ℤ◌, pos}
use Rattle.std.proofs.lemmas.Int.{ints}
use Rattle.std.proofs.lemmas.Bool.{cases_eq, eq-eqb, ne_eqb}
use Rattle.pf_model.specs.Fraction.{Fraction, IsParameter, IsBelow}
use Rattle.pf_model.specs.Cut.{at_arc}
use Rattle.pf_model.proofs.Integers.{mul_add, add_mul, mul_comm, mul_most, mul_less, mul_nonneg, swap}
use Rattle.pf_graph.specs.WeightedGraph.{WeightedGraph, IsWeightedGraph}
use Rattle.pf_graph.specs.Labels.{label, parts, crossing, greatest_label, Refines}
use Rattle.pf_graph.specs.Best.{crossing_of, partition_value, IsBest}
use Rattle.pf_graph.proofs.Counting.{count, count_more, label_top, occurs_label, label_occurs}
use Rattle.pf_graph.proofs.Merging.{merge, length_merge, label_merge, parts_merge, IsMerging, hit, hit_at, hit_find, split, length_split, label_split, parts_split}

-- the number x where the labels differ, and 0 where they do not
abbrev apart : ℕ → ℕ → ℤ → ℤ
apart a b x = cond (not (eqb a b)) x (pos 0)

apart_same : (a b : ℕ) (x : ℤ) → a ≡ b → apart a b x ≡ pos 0
apart_same a b x e = rw (eq-eqb a b e) refl

apart_other : (a b : ℕ) (x : ℤ) → a ≢ b → apart a b x ≡ x
apart_other a b x e = rw (ne_eqb a b e) refl

cond_high : (p : Bool) (x : ℤ) → pos 0 ≤ℤ x → cond p x (pos 0) ≤ℤ x
cond_high true x h = omega (arith, ints)
cond_high false x h = h

cond_low : (p : Bool) (x : ℤ) → pos 0 ≤ℤ x → pos 0 ≤ℤ cond p x (pos 0)
cond_low true x h = h
cond_low false x h = omega (arith, ints)

merged_edge : (test : ℕ → Bool) (c du dw : ℕ) (x : ℤ) → pos 0 ≤ℤ x →
    apart (cond (test du) c du) (cond (test dw) c dw) x ≤ℤ apart du dw x
merged_edge test c du dw x low = elim (cases_eq du dw) [
  | inl same ↦
      let e = apart_same _ _ x (ap (λ k. cond (test k) c k) same) in
      let f = cond_low (not (eqb du dw)) x low in
      omega (arith, ints, e, f)
  | inr other ↦
      let e = apart_other du dw x other in
      let f = cond_high (not (eqb (cond (test du) c du) (cond (test dw) c dw))) x low in
      omega (arith, ints, e, f)
]

moved_edge : (n du dw : ℕ) (x : ℤ) → pos 0 ≤ℤ x → apart (n + du) (n + dw) x ≤ℤ apart du dw x
moved_edge n du dw x low = elim (cases_eq du dw) [
  | inl same ↦
      let e = apart_same (n + du) (n + dw) x (ap (λ k. n + k) same) in
      let f = cond_low (not (eqb du dw)) x low in
      omega (arith, ints, e, f)
  | inr other ↦
      let e = apart_other du dw x other in
      let f = cond_high (not (eqb (n + du) (n + dw))) x low in
      omega (arith, ints, e, f)
]

-- both new lists together separate the ends at most as often as both old ones
exchange_edge : (test : ℕ → Bool) (c n b du dw ru rw' : ℕ) (x : ℤ) → pos 0 ≤ℤ x → (ru ≡ b → test du ≡ true) → (rw' ≡ b → test dw ≡ true) →
    (apart (cond (test du) c du) (cond (test dw) c dw) x +ℤ apart (cond (eqb ru b) (n + du) ru) (cond (eqb rw' b) (n + dw) rw') x)
    ≤ℤ (apart du dw x +ℤ apart ru rw' x)
exchange_edge test c n b du dw ru rw' x low hu hw = elim (cases_eq ru rw') [
  | inl same ↦ elim (cases_eq ru b) [
    | inl here ↦
        let at_u = hu here in
        let at_w = hw (sym same ∙ here) in
        let merged : apart (cond (test du) c du) (cond (test dw) c dw) x ≡ pos 0 =
        apart_same _ _ x (ap (λ p. cond p c du) at_u ∙ sym (ap (λ p. cond p c dw) at_w)) in
        let first : cond (eqb ru b) (n + du) ru ≡ n + du = ap (λ p. cond p (n + du) ru) (eq-eqb ru b here) in
        let second : cond (eqb rw' b) (n + dw) rw' ≡ n + dw = ap (λ p. cond p (n + dw) rw') (eq-eqb rw' b (sym same ∙ here)) in
        let moved = moved_edge n du dw x low in
        let stays : apart (cond (eqb ru b) (n + du) ru) (cond (eqb rw' b) (n + dw) rw') x ≡ apart (n + du) (n + dw) x =
        ap (λ k. apart k (cond (eqb rw' b) (n + dw) rw') x) first ∙ ap (λ k. apart (n + du) k x) second in
        let none = cond_low (not (eqb ru rw')) x low in
        omega (arith, ints, merged, moved, stays, none)
    | inr there ↦
        let first : cond (eqb ru b) (n + du) ru ≡ ru = ap (λ p. cond p (n + du) ru) (ne_eqb ru b there) in
        let second : cond (eqb rw' b) (n + dw) rw' ≡ rw' = ap (λ p. cond p (n + dw) rw') (ne_eqb rw' b (λ e. there (same ∙ e))) in
        let none = apart_same (cond (eqb ru b) (n + du) ru) (cond (eqb rw' b) (n + dw) rw') x (first ∙ same ∙ sym second) in
        let merged = merged_edge test c du dw x low in
        let rest = cond_low (not (eqb ru rw')) x low in
        omega (arith, ints, none, merged, rest)
  ]
  | inr other ↦
      let full = apart_other ru rw' x other in
      let most = cond_high (not (eqb (cond (eqb ru b) (n + du) ru) (cond (eqb rw' b) (n + dw) rw'))) x low in
      let merged = merged_edge test c du dw x low in
      omega (arith, ints, full, most, merged)
]

exchange_sum : (ends : List (ℕ × ℕ)) (numbers : List ℤ) (d' r' d r : List ℕ) → length numbers ≡ length ends →
    ((i : ℕ) → i < length ends →
    (apart (label d' (get_or ends i (0, 0)).0) (label d' (get_or ends i (0, 0)).1) (at_arc numbers i)
    +ℤ apart (label r' (get_or ends i (0, 0)).0) (label r' (get_or ends i (0, 0)).1) (at_arc numbers i))
    ≤ℤ (apart (label d (get_or ends i (0, 0)).0) (label d (get_or ends i (0, 0)).1) (at_arc numbers i)
    +ℤ apart (label r (get_or ends i (0, 0)).0) (label r (get_or ends i (0, 0)).1) (at_arc numbers i))) →
    (crossing ends numbers d' +ℤ crossing ends numbers r') ≤ℤ (crossing ends numbers d +ℤ crossing ends numbers r)
exchange_sum [] numbers d' r' d r full h = omega (arith, ints)
exchange_sum (edge ∷ ends) [] d' r' d r full h = absurd (omega arith)
exchange_sum (edge ∷ ends) (x ∷ numbers) d' r' d r full h =
    let here = h 0 (omega arith) in
    let rest = exchange_sum ends numbers d' r' d r (omega arith) (λ i low. h (suc i) (omega arith)) in
    omega (arith, ints, here, rest)

-- Two lists d and r, and a vertex v: in d the labels that the part of v in r meets become one, and in r that part is split by d.
abbrev merged : List ℕ → List ℕ → ℕ → List ℕ
merged d r v = merge (hit (label r v) d r) (label d v) d

abbrev parted : List ℕ → List ℕ → ℕ → List ℕ
parted d r v = split (suc (greatest_label r)) (label r v) d r

abbrev hits : List ℕ → List ℕ → ℕ → ℕ
hits d r v = count (suc (greatest_label d)) (hit (label r v) d r)

exchange_crossing : (g : WeightedGraph) (d r : List ℕ) (v : ℕ) → IsWeightedGraph g → length d ≡ g.nodes → length r ≡ g.nodes →
    (crossing_of g (merged d r v) +ℤ crossing_of g (parted d r v)) ≤ℤ (crossing_of g d +ℤ crossing_of g r)
exchange_crossing g d r v graph long_d long_r =
    exchange_sum g.ends g.weights (merged d r v) (parted d r v) d r graph.weights_full
    (λ i low.
    let edge = get_or g.ends i (0, 0) in
    let tail = graph.graph.tails i low in
    let head = graph.graph.heads i low in
    let test = hit (label r v) d r in
    let n = suc (greatest_label r) in
    let b = label r v in
    let both : length d ≡ length r = long_d ∙ sym long_r in
    let first : edge.0 < length d = omega (arith, tail, long_d) in
    let second : edge.1 < length d = omega (arith, head, long_d) in
    rw (label_merge test (label d v) d edge.0 first, label_merge test (label d v) d edge.1 second, label_split n b d r edge.0 both first, label_split n b d r edge.1 both second)
    (exchange_edge test (label d v) n b (label d edge.0) (label d edge.1) (label r edge.0) (label r edge.1) (at_arc g.weights i) (graph.weights_low i low)
    (λ e. hit_at b d r edge.0 both first e) (λ e. hit_at b d r edge.1 both second e)))

is_merging : (d r : List ℕ) (v : ℕ) → length d ≡ length r → v < length d → IsMerging (hit (label r v) d r) (label d v) d
is_merging d r v both low = record {
  into = hit_at (label r v) d r v both low refl;
  occur = λ a h. let found = hit_find (label r v) d r a h in label_occurs a d found.vertex found.in_range found.first;
}

and_false : (p : Bool) → (p && false) ≡ false
and_false true = refl
and_false false = refl

and_true : (p : Bool) → p ≡ (p && true)
and_true true = refl
and_true false = refl

some_here : (p : Bool) (n : ℕ) → p ≡ true → 1 ≤ cond p 1 0 + n
some_here true n h = omega arith
some_here false n h = cc

some_later : (p : Bool) (n : ℕ) → 1 ≤ n → 1 ≤ cond p 1 0 + n
some_later p n h = omega arith

pub count_some : (n a : ℕ) (p : ℕ → Bool) → a < n → p a ≡ true → 1 ≤ count n p
count_some zero a p low h = absurd (omega arith)
count_some (suc n) a p low h = elim (cases_eq a n) [
  | inl same ↦ some_here (p n) _ (ap p (sym same) ∙ h)
  | inr other ↦ some_later (p n) _ (count_some n a p (omega arith) h)
]

-- where two different numbers pass, at least two do
pub count_two : (n a b : ℕ) (p : ℕ → Bool) → a < n → b < n → a ≢ b → p a ≡ true → p b ≡ true → 2 ≤ count n p
count_two n a b p low_a low_b other at_a at_b =
    let e = count_more n a (λ k. p k && not (eqb k a)) p low_a
    (rw (eq-eqb a a refl) (and_false (p a))) at_a (λ k low differ. rw (ne_eqb k a differ) (sym (and_true (p k)))) in
    let some = count_some n b (λ k. p k && not (eqb k a)) low_b (rw (at_b, ne_eqb b a (λ f. other (sym f))) refl) in
    omega (arith, e, some)

-- sums of two lines at two levels
pub sub_mul : (a b k : ℤ) → (a -ℤ b) *ℤ k ≡ (a *ℤ k) -ℤ (b *ℤ k)
sub_mul a b k =
    let e : a ≡ (a -ℤ b) +ℤ b = omega (arith, ints) in
    let f : a *ℤ k ≡ ((a -ℤ b) *ℤ k) +ℤ (b *ℤ k) = ap (λ n. n *ℤ k) e ∙ add_mul (a -ℤ b) b k in
    omega (arith, ints, f)

pub line_gap : (a b a' b' p q : ℤ) → ((a *ℤ q) +ℤ (b *ℤ p)) ≤ℤ ((a' *ℤ q) +ℤ (b' *ℤ p)) → ((a -ℤ a') *ℤ q) ≤ℤ ((b' -ℤ b) *ℤ p)
line_gap a b a' b' p q h =
    let e = sub_mul a a' q in
    let f = sub_mul b' b p in
    omega (arith, ints, h, e, f)

pub line_gap_less : (a b a' b' p q : ℤ) → ((a *ℤ q) +ℤ (b *ℤ p)) <ℤ ((a' *ℤ q) +ℤ (b' *ℤ p)) → ((a -ℤ a') *ℤ q) <ℤ ((b' -ℤ b) *ℤ p)
line_gap_less a b a' b' p q h =
    let e = sub_mul a a' q in
    let f = sub_mul b' b p in
    omega (arith, ints, h, e, f)

cross_parts : (a1 a2 i p1 q1 p2 q2 : ℤ) →
    ((q2 *ℤ (a1 *ℤ q1)) ≡ a1 *ℤ (q1 *ℤ q2)) × ((q1 *ℤ (a2 *ℤ q2)) ≡ a2 *ℤ (q1 *ℤ q2))
    × ((q2 *ℤ (i *ℤ p1)) ≡ i *ℤ (p1 *ℤ q2)) × ((q1 *ℤ (i *ℤ p2)) ≡ i *ℤ (p2 *ℤ q1))
cross_parts a1 a2 i p1 q1 p2 q2 = (
  swap q2 a1 q1,
  swap q1 a2 q2 ∙ ap (λ n. a2 *ℤ n) (mul_comm q2 q1),
  swap q2 i p1,
  swap q1 i p2,
)

sum_low : (a1 a2 k : ℤ) → pos 0 ≤ℤ (a1 +ℤ a2) → pos 0 ≤ℤ k → pos 0 ≤ℤ ((a1 *ℤ k) +ℤ (a2 *ℤ k))
sum_low a1 a2 k h l =
    let e = add_mul a1 a2 k in
    let f = mul_nonneg (a1 +ℤ a2) k h l in
    omega (arith, ints, e, f)

negated : (q a b : ℤ) → (a +ℤ b) ≤ℤ pos 0 → pos 0 ≤ℤ q → ((q *ℤ a) +ℤ (q *ℤ b)) ≤ℤ pos 0
negated q a b h l =
    let e = mul_most q (a +ℤ b) (pos 0) l h in
    let f = mul_add q a b in
    let none : q *ℤ pos 0 ≡ pos 0 = omega (arith, ints) in
    omega (arith, ints, e, f, none)

pub cross : (a1 a2 i p1 q1 p2 q2 : ℤ) → pos 1 ≤ℤ q1 → pos 1 ≤ℤ q2 → (a1 *ℤ q1) ≤ℤ (i *ℤ p1) → ((a2 *ℤ q2) +ℤ (i *ℤ p2)) ≤ℤ pos 0 →
    pos 0 ≤ℤ (a1 +ℤ a2) → (i *ℤ (p2 *ℤ q1)) ≤ℤ (i *ℤ (p1 *ℤ q2))
cross a1 a2 i p1 q1 p2 q2 h1 h2 first second low =
    let e = mul_most q2 (a1 *ℤ q1) (i *ℤ p1) (omega (arith, ints, h2)) first in
    let f = negated q1 (a2 *ℤ q2) (i *ℤ p2) second (omega (arith, ints, h1)) in
    let same = cross_parts a1 a2 i p1 q1 p2 q2 in
    let both = sum_low a1 a2 (q1 *ℤ q2) low (mul_nonneg q1 q2 (omega (arith, ints, h1)) (omega (arith, ints, h2))) in
    omega (arith, ints, e, f, same.0, same.1, same.2, same.3, both)

pub cross_less : (a1 a2 i p1 q1 p2 q2 : ℤ) → pos 1 ≤ℤ q1 → pos 1 ≤ℤ q2 → (a1 *ℤ q1) <ℤ (i *ℤ p1) → ((a2 *ℤ q2) +ℤ (i *ℤ p2)) ≤ℤ pos 0 →
    pos 0 ≤ℤ (a1 +ℤ a2) → (i *ℤ (p2 *ℤ q1)) <ℤ (i *ℤ (p1 *ℤ q2))
cross_less a1 a2 i p1 q1 p2 q2 h1 h2 first second low =
    let e = mul_less q2 (a1 *ℤ q1) (i *ℤ p1) (omega (arith, ints, h2)) first in
    let f = negated q1 (a2 *ℤ q2) (i *ℤ p2) second (omega (arith, ints, h1)) in
    let same = cross_parts a1 a2 i p1 q1 p2 q2 in
    let both = sum_low a1 a2 (q1 *ℤ q2) low (mul_nonneg q1 q2 (omega (arith, ints, h1)) (omega (arith, ints, h2))) in
    omega (arith, ints, e, f, same.0, same.1, same.2, same.3, both)

-- an exchange that merges i + 1 labels into one below, and splits a part into i + 1 above, would gain
no_exchange : (g : WeightedGraph) (x y : Fraction) (d r d' r' : List ℕ) (i : ℕ) → IsParameter x → IsParameter y → IsBelow x y →
    partition_value g d x ≤ℤ partition_value g d' x → partition_value g r y ≤ℤ partition_value g r' y → (crossing_of g d' +ℤ crossing_of g r') ≤ℤ (crossing_of g d +ℤ crossing_of g r) →
    parts d ≡ parts d' + i → parts r' ≡ parts r + i → 0 < i → ⊥
no_exchange g x y d r d' r' i px py less best_d best_r sum fewer more some =
    let e = line_gap (crossing_of g d) (pos 1 -ℤ pos (parts d)) (crossing_of g d') (pos 1 -ℤ pos (parts d')) x.p x.q best_d in
    let f = line_gap (crossing_of g r) (pos 1 -ℤ pos (parts r)) (crossing_of g r') (pos 1 -ℤ pos (parts r')) y.p y.q best_r in
    let gap_d : (pos 1 -ℤ pos (parts d')) -ℤ (pos 1 -ℤ pos (parts d)) ≡ pos i = omega (arith, ints, fewer) in
    let gap_r : ((pos 1 -ℤ pos (parts r')) -ℤ (pos 1 -ℤ pos (parts r))) +ℤ pos i ≡ pos 0 = omega (arith, ints, more) in
    let e' = ap (λ n. n *ℤ x.p) gap_d in
    let f' = sym (add_mul ((pos 1 -ℤ pos (parts r')) -ℤ (pos 1 -ℤ pos (parts r))) (pos i) y.p) ∙ ap (λ n. n *ℤ y.p) gap_r in
    let none : pos 0 *ℤ y.p ≡ pos 0 = omega (arith, ints) in
    let most = cross (crossing_of g d -ℤ crossing_of g d') (crossing_of g r -ℤ crossing_of g r') (pos i) x.p x.q y.p y.q px py
    (omega (arith, ints, e, e')) (omega (arith, ints, f, f', none)) (omega (arith, ints, sum)) in
    let strict = mul_less (pos i) (x.p *ℤ y.q) (y.p *ℤ x.q) (omega (arith, ints, some)) less in
    omega (arith, ints, most, strict)

together : (g : WeightedGraph) (x y : Fraction) (d r : List ℕ) (u v : ℕ) → IsWeightedGraph g → IsParameter x → IsParameter y → IsBelow x y →
    IsBest g x d → IsBest g y r → u < g.nodes → v < g.nodes → label r u ≡ label r v → label d u ≢ label d v → ⊥
together g x y d r u v graph px py less best_d best_r low_u low_v same other =
    let long_d = best_d.full in
    let long_r = best_r.full in
    let both : length d ≡ length r = long_d ∙ sym long_r in
    let in_d : v < length d = omega (arith, low_v, long_d) in
    let u_in_d : u < length d = omega (arith, low_u, long_d) in
    let top_u = label_top d u in
    let top_v = label_top d v in
    let two = count_two (suc (greatest_label d)) (label d u) (label d v) (hit (label r v) d r) (omega (arith, top_u)) (omega (arith, top_v)) other
    (hit_at (label r v) d r u both u_in_d same) (hit_at (label r v) d r v both in_d refl) in
    let fewer = parts_merge (hit (label r v) d r) (label d v) d (suc (greatest_label d)) (is_merging d r v both in_d) (omega arith) in
    let more = parts_split (suc (greatest_label r)) (suc (greatest_label d)) (label r v) d r both (omega arith) (omega arith) (occurs_label r v (omega (arith, low_v, long_r))) in
    let sum = exchange_crossing g d r v graph long_d long_r in
    no_exchange g x y d r (merged d r v) (parted d r v) (hits d r v - 1) px py less
    (best_d.least (merged d r v) (length_merge (hit (label r v) d r) (label d v) d ∙ long_d))
    (best_r.least (parted d r v) (length_split (suc (greatest_label r)) (label r v) d r both ∙ long_r))
    sum (omega (arith, fewer, two)) (omega (arith, more, two)) (omega (arith, two))

-- of two best lists the one at the greater level refines the other
pub refinement : (g : WeightedGraph) (x y : Fraction) (d r : List ℕ) → IsWeightedGraph g → IsParameter x → IsParameter y → IsBelow x y →
    IsBest g x d → IsBest g y r → Refines g.nodes r d
refinement g x y d r graph px py less best_d best_r = record {
  joins = λ u v low_u low_v same. elim (cases_eq (label d u) (label d v)) [
    | inl equal ↦ equal
    | inr other ↦ absurd (together g x y d r u v graph px py less best_d best_r low_u low_v same other)
  ];
}
