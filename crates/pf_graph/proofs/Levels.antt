-- Where a list of labels is best: between two levels, from a level on, at level 0, and above the total weight.
use Rattle.std.proofs.Common.{◌≡◌, ◌≢◌, ℕ, zero, suc, ◌+◌, ◌<◌, ◌≤◌, List, [], ◌∷◌, length, get_or, refl, Bool, true, false, cond, not, arith, ap, sym, ◌∙◌, inl, inr}
use Rattle.std.specs.Prelude.{ℤ, ◌+ℤ◌, ◌-ℤ◌, ◌*ℤ◌, ◌≤ℤ◌, ◌<ℤ◌, pos}
use Rattle.std.proofs.lemmas.Int.{ints, by_lt_z}
use Rattle.std.proofs.lemmas.Bool.{cases_lt, cases_Bool, ne_eqb}
use Rattle.pf_model.specs.Fraction.{Fraction, IsParameter, IsBelow, IsAtMost}
use Rattle.pf_model.specs.Cut.{sum_where}
use Rattle.pf_model.proofs.Sums.{sum_where_empty, sum_where_most, sum_where_none, sum_where_split}
use Rattle.pf_model.proofs.Integers.{add_mul, mul_comm, mul_most, mul_most_inverse, line_rises, nonneg_inverse}
use Rattle.pf_model.proofs.Certificate.{line_between}
use Rattle.pf_graph.specs.WeightedGraph.{WeightedGraph, IsWeightedGraph, total}
use Rattle.pf_graph.specs.Labels.{label, occurs, parts, crosses, Refines}
use Rattle.pf_graph.specs.Best.{crossing_of, partition_value, IsBest}
use Rattle.pf_graph.specs.Laws.{level_above}
use Rattle.pf_graph.proofs.Counting.{parts_most, occurs_find, label_occurs}
use Rattle.pf_graph.proofs.Classes.{sum_add}
use Rattle.pf_graph.proofs.Refinement.{line_gap, line_gap_less, cross_less, sub_mul}

abbrev slope : List ℕ → ℤ
slope d = pos 1 -ℤ pos (parts d)

value_difference : (g : WeightedGraph) (x : Fraction) (d r : List ℕ) →
    ((crossing_of g r -ℤ crossing_of g d) *ℤ x.q) +ℤ ((slope r -ℤ slope d) *ℤ x.p) ≡ partition_value g r x -ℤ partition_value g d x
value_difference g x d r =
    let e = sub_mul (crossing_of g r) (crossing_of g d) x.q in
    let f = sub_mul (slope r) (slope d) x.p in
    omega (arith, ints, e, f)

-- best at two levels, so best between them
pub best_between : (g : WeightedGraph) (low x high : Fraction) (d : List ℕ) → IsParameter low → IsParameter x → IsParameter high →
    IsAtMost low x → IsAtMost x high → IsBest g low d → IsBest g high d → IsBest g x d
best_between g low x high d pl px ph h k at_low at_high = record {
  full = at_low.full;
  least = λ other full.
      let e = at_low.least other full in
      let f = at_high.least other full in
      let e1 = value_difference g low d other in
      let f1 = value_difference g high d other in
      let m = line_between (crossing_of g other -ℤ crossing_of g d) (slope other -ℤ slope d) low x high pl px ph h k
      (omega (arith, ints, e, e1)) (omega (arith, ints, f, f1)) in
      let m1 = value_difference g x d other in
      omega (arith, ints, m, m1);
}

-- single vertices that are best at a level are best at each greater one
pub best_above : (g : WeightedGraph) (x y : Fraction) (d : List ℕ) → IsParameter x → IsParameter y → IsAtMost x y → parts d ≡ g.nodes →
    IsBest g x d → IsBest g y d
best_above g x y d px py h single best = record {
  full = best.full;
  least = λ other full.
      let few = parts_most other in
      let rise : pos 0 ≤ℤ (slope other -ℤ slope d) = omega (arith, ints, few, full, single) in
      let e = best.least other full in
      let e1 = value_difference g x d other in
      let f = line_rises (crossing_of g other -ℤ crossing_of g d) (slope other -ℤ slope d) x.p x.q y.p y.q px py rise h in
      let low = mul_most y.q (pos 0) (partition_value g other x -ℤ partition_value g d x) (omega (arith, ints, py)) (omega (arith, ints, e)) in
      let none : y.q *ℤ pos 0 ≡ pos 0 = omega (arith, ints) in
      let same = ap (λ n. y.q *ℤ n) e1 in
      let m = nonneg_inverse x.q (((crossing_of g other -ℤ crossing_of g d) *ℤ y.q) +ℤ ((slope other -ℤ slope d) *ℤ y.p)) px
      (omega (arith, ints, f, low, none, same)) in
      let m1 = value_difference g y d other in
      omega (arith, ints, m, m1);
}

-- sums of weights are not below 0, and no part of them is above the total
pub sum_low : (g : WeightedGraph) (test : ℕ × ℕ → Bool) → IsWeightedGraph g → pos 0 ≤ℤ sum_where test g.ends g.weights
sum_low g test graph =
    let e = sum_where_most test g.ends [] g.weights (λ i p. graph.weights_low i p.in_range) in
    let f = sum_where_empty test g.ends in
    omega (arith, ints, e, f)

pub crossing_low : (g : WeightedGraph) (d : List ℕ) → IsWeightedGraph g → pos 0 ≤ℤ crossing_of g d
crossing_low g d graph = sum_low g (crosses d) graph

pub crossing_high : (g : WeightedGraph) (d : List ℕ) → IsWeightedGraph g → crossing_of g d ≤ℤ total g.ends g.weights
crossing_high g d graph =
    let e = sum_where_split (λ edge. true) (crosses d) g.ends g.weights in
    let f = sum_low g (λ edge. not (crosses d edge)) graph in
    omega (arith, ints, e, f)

-- one part
abbrev pub one_part : ℕ → List ℕ
one_part zero = []
one_part (suc n) = 0 ∷ one_part n

pub length_one : (n : ℕ) → length (one_part n) ≡ n
length_one zero = refl
length_one (suc n) = ap suc (length_one n)

pub label_one : (n v : ℕ) → label (one_part n) v ≡ 0
label_one zero v = refl
label_one (suc n) zero = refl
label_one (suc n) (suc v) = label_one n v

pub crossing_one : (g : WeightedGraph) (n : ℕ) → crossing_of g (one_part n) ≡ pos 0
crossing_one g n = sum_where_none (crosses (one_part n)) g.ends g.weights (λ edge. rw (label_one n edge.0, label_one n edge.1) refl)

at_zero : (b p : ℤ) → p ≡ pos 0 → b *ℤ p ≡ pos 0
at_zero b p e = ap (λ n. b *ℤ n) e ∙ (let none : b *ℤ pos 0 ≡ pos 0 = omega (arith, ints) in none)

-- where no edge crosses, the list is best at level 0
pub uncrossed_best : (g : WeightedGraph) (x : Fraction) (d : List ℕ) → IsWeightedGraph g → IsParameter x → x.p ≡ pos 0 → length d ≡ g.nodes →
    crossing_of g d ≡ pos 0 → IsBest g x d
uncrossed_best g x d graph px level full none = record {
  full = full;
  least = λ other long.
      let e = at_zero (slope d) x.p level in
      let f = at_zero (slope other) x.p level in
      let low = mul_most x.q (pos 0) (crossing_of g other) (omega (arith, ints, px)) (crossing_low g other graph) in
      let same = mul_comm x.q (crossing_of g other) in
      let z : x.q *ℤ pos 0 ≡ pos 0 = omega (arith, ints) in
      let here = ap (λ n. n *ℤ x.q) none in
      let z' : pos 0 *ℤ x.q ≡ pos 0 = omega (arith, ints) in
      omega (arith, ints, e, f, low, same, z, here, z');
}

-- and only there
pub best_uncrossed : (g : WeightedGraph) (x : Fraction) (d : List ℕ) → IsWeightedGraph g → IsParameter x → x.p ≡ pos 0 → IsBest g x d → crossing_of g d ≡ pos 0
best_uncrossed g x d graph px level best =
    let h = best.least (one_part g.nodes) (length_one g.nodes) in
    let e = at_zero (slope d) x.p level in
    let f = at_zero (slope (one_part g.nodes)) x.p level in
    let here = ap (λ n. n *ℤ x.q) (crossing_one g g.nodes) in
    let z' : pos 0 *ℤ x.q ≡ pos 0 = omega (arith, ints) in
    let same = mul_comm x.q (crossing_of g d) in
    let z : x.q *ℤ pos 0 ≡ pos 0 = omega (arith, ints) in
    let high = mul_most_inverse x.q (crossing_of g d) (pos 0) (omega (arith, ints, px)) (omega (arith, ints, h, e, f, here, z', same, z)) in
    let low = crossing_low g d graph in
    omega (arith, ints, high, low)

-- as many parts as vertices: all labels differ
distinct_step : (here : Bool) (k n : ℕ) → cond here 0 1 + k ≡ suc n → k ≤ n → (here ≡ false) × (k ≡ n)
distinct_step true k n e h = absurd (omega (arith, e, h))
distinct_step false k n e h = (refl, omega (arith, e))

pub distinct : (d : List ℕ) (u v : ℕ) → parts d ≡ length d → u < length d → v < length d → label d u ≡ label d v → u ≡ v
distinct [] u v e low_u low_v same = absurd (omega arith)
distinct (x ∷ d) zero zero e low_u low_v same = refl
distinct (x ∷ d) zero (suc v) e low_u low_v same =
    let both = distinct_step (occurs x d) (parts d) (length d) e (parts_most d) in
    absurd (let on = label_occurs x d v (omega arith) (sym same) in let off = both.0 in cc)
distinct (x ∷ d) (suc u) zero e low_u low_v same =
    let both = distinct_step (occurs x d) (parts d) (length d) e (parts_most d) in
    absurd (let on = label_occurs x d u (omega arith) same in let off = both.0 in cc)
distinct (x ∷ d) (suc u) (suc v) e low_u low_v same =
    let both = distinct_step (occurs x d) (parts d) (length d) e (parts_most d) in
    ap suc (distinct d u v both.1 (omega arith) (omega arith) same)

-- so it refines every list
pub single_refines : (d r : List ℕ) → parts d ≡ length d → Refines (length d) d r
single_refines d r single = record { joins = λ u v low_u low_v same. ap (label r) (distinct d u v single low_u low_v same) }

-- and every edge crosses
pub crossing_single : (g : WeightedGraph) (d : List ℕ) → IsWeightedGraph g → length d ≡ g.nodes → parts d ≡ g.nodes → crossing_of g d ≡ total g.ends g.weights
crossing_single g d graph full single =
    let none : ℕ × ℕ → Bool = λ edge. false in
    let e = sum_add (λ edge. true) (crosses d) none g.ends g.weights
    (λ i low.
    let edge = get_or g.ends i (0, 0) in
    let tail = graph.graph.tails i low in
    let head = graph.graph.heads i low in
    let differ : label d edge.0 ≢ label d edge.1 =
    (λ same. graph.apart i low (distinct d edge.0 edge.1 (single ∙ sym full) (omega (arith, tail, full)) (omega (arith, head, full)) same)) in
    record { either = rw (ne_eqb (label d edge.0) (label d edge.1) differ) refl; apart = rw (ne_eqb (label d edge.0) (label d edge.1) differ) refl }) in
    let f = sum_where_none none g.ends g.weights (λ edge. refl) in
    omega (arith, ints, e, f)

-- single vertices
abbrev pub singles : ℕ → List ℕ
singles zero = []
singles (suc n) = n ∷ singles n

pub length_singles : (n : ℕ) → length (singles n) ≡ n
length_singles zero = refl
length_singles (suc n) = ap suc (length_singles n)

singles_below : (n v : ℕ) → v < n → label (singles n) v < n
singles_below zero v low = absurd (omega arith)
singles_below (suc n) zero low = omega arith
singles_below (suc n) (suc v) low = let e = singles_below n v (omega arith) in omega (arith, e)

absent_singles : (n : ℕ) → occurs n (singles n) ≡ false
absent_singles n = elim (cases_Bool (occurs n (singles n))) [
  | inl on ↦
      let found = occurs_find n (singles n) on in
      let low = found.in_range in
      let e = found.label_is in
      let long = length_singles n in
      let less = singles_below n found.vertex (omega (arith, low, long)) in
      absurd (omega (arith, less, e))
  | inr off ↦ off
]

pub parts_singles : (n : ℕ) → parts (singles n) ≡ n
parts_singles zero = refl
parts_singles (suc n) =
    let e = absent_singles n in
    let rest = parts_singles n in
    rw (e) (omega (arith, rest))

-- a list with fewer parts than n is worse at the level t = T + 1
fewer_worse : (t kd kr : ℤ) → pos 1 ≤ℤ t → kr <ℤ kd → t ≤ℤ ((kd -ℤ kr) *ℤ t)
fewer_worse t kd kr h less =
    let e = mul_most t (pos 1) (kd -ℤ kr) (omega (arith, ints, h)) (omega (arith, ints, less)) in
    let f = mul_comm t (kd -ℤ kr) in
    let one : t *ℤ pos 1 ≡ t = omega (arith, ints) in
    omega (arith, ints, e, f, one)

-- best above the total weight: single vertices
pub best_single : (g : WeightedGraph) (d : List ℕ) → IsWeightedGraph g → IsBest g (level_above g) d → parts d ≡ g.nodes
best_single g d graph best =
    let s = singles g.nodes in
    let all = parts_singles g.nodes in
    let h = best.least s (length_singles g.nodes) in
    let gap = line_gap (crossing_of g d) (slope d) (crossing_of g s) (slope s) (level_above g).p (level_above g).q h in
    let one : (crossing_of g d -ℤ crossing_of g s) *ℤ pos 1 ≡ crossing_of g d -ℤ crossing_of g s = omega (arith, ints) in
    let low = crossing_low g d graph in
    let high = crossing_high g s graph in
    let none = crossing_low g s graph in
    let few = parts_most d in
    let full = best.full in
    elim (cases_lt (parts d) g.nodes) [
      | inl less ↦
          let worse = fewer_worse (level_above g).p (pos (parts s)) (pos (parts d)) (omega (arith, ints, high, none)) (omega (arith, ints, all, less)) in
          let turned = sub_mul (pos (parts s)) (pos (parts d)) (level_above g).p in
          let other = sub_mul (slope s) (slope d) (level_above g).p in
          let first = sub_mul (pos 1) (pos (parts s)) (level_above g).p in
          let second = sub_mul (pos 1) (pos (parts d)) (level_above g).p in
          absurd (omega (arith, ints, gap, one, low, high, worse, turned, other, first, second))
      | inr more ↦ omega (arith, more, few, full)
    ]

pub single_best : (g : WeightedGraph) (d : List ℕ) → IsWeightedGraph g → length d ≡ g.nodes → parts d ≡ g.nodes → IsBest g (level_above g) d
single_best g d graph full single = record {
  full = full;
  least = λ other long.
      let here = crossing_single g d graph full single in
      let few = parts_most other in
      let first = sub_mul (pos 1) (pos (parts other)) (level_above g).p in
      let second = sub_mul (pos 1) (pos (parts d)) (level_above g).p in
      elim (cases_lt (parts other) g.nodes) [
        | inl less ↦
            let low = crossing_low g other graph in
            let total_low = crossing_low g d graph in
            let worse = fewer_worse (level_above g).p (pos (parts d)) (pos (parts other)) (omega (arith, ints, here, total_low)) (omega (arith, ints, single, less)) in
            let turned = sub_mul (pos (parts d)) (pos (parts other)) (level_above g).p in
            omega (arith, ints, here, low, worse, turned, first, second)
        | inr more ↦
            let as_many : parts other ≡ g.nodes = omega (arith, more, few, long) in
            let there = crossing_single g other graph long as_many in
            let same = ap (λ n. (pos 1 -ℤ pos n) *ℤ (level_above g).p) (as_many ∙ sym single) in
            omega (arith, ints, here, there, same)
      ];
}

-- a list that is better at a level than one that is best at a greater level has fewer parts
pub fewer_parts : (g : WeightedGraph) (x y : Fraction) (d0 d : List ℕ) → IsParameter x → IsParameter y → IsBelow x y → IsBest g y d0 →
    length d ≡ g.nodes → partition_value g d x <ℤ partition_value g d0 x → parts d < parts d0
fewer_parts g x y d0 d px py less best full better =
    let i : ℤ = pos (parts d) -ℤ pos (parts d0) in
    let e = line_gap_less (crossing_of g d) (slope d) (crossing_of g d0) (slope d0) x.p x.q better in
    let f = line_gap (crossing_of g d0) (slope d0) (crossing_of g d) (slope d) y.p y.q (best.least d full) in
    let gap : slope d0 -ℤ slope d ≡ i = omega (arith, ints) in
    let gap' : (slope d -ℤ slope d0) +ℤ i ≡ pos 0 = omega (arith, ints) in
    let e' = ap (λ n. n *ℤ x.p) gap in
    let f' = sym (add_mul (slope d -ℤ slope d0) i y.p) ∙ ap (λ n. n *ℤ y.p) gap' in
    let none : pos 0 *ℤ y.p ≡ pos 0 = omega (arith, ints) in
    let most = cross_less (crossing_of g d -ℤ crossing_of g d0) (crossing_of g d0 -ℤ crossing_of g d) i x.p x.q y.p y.q px py
    (omega (arith, ints, e, e')) (omega (arith, ints, f, f', none)) (omega (arith, ints)) in
    by_lt_z i (pos 0)
    (λ negative. omega (arith, ints, negative))
    (λ more. absurd (let back = mul_most i (x.p *ℤ y.q) (y.p *ℤ x.q) more (omega (arith, ints, less)) in omega (arith, ints, most, back)))
