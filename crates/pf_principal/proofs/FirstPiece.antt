-- The first partition and the first level: the connected components, and the strength.
use Rattle.std.proofs.Common.{◌≡◌, ℕ, zero, suc, ◌+◌, ◌<◌, ◌≤◌, List, [], ◌∷◌, length, get_or, refl, Bool, true, false, cond, not, ap, sym, ◌∙◌, inl, inr, arith}
use Rattle.std.specs.Prelude.{ℤ, ◌+ℤ◌, ◌-ℤ◌, ◌*ℤ◌, ◌≤ℤ◌, pos}
use Rattle.std.proofs.lemmas.Bool.{both_ways, cases_lt, eq-eqb, eqb-true}
use Rattle.std.proofs.lemmas.Int.{ints}
use Rattle.pf_model.specs.Cut.{at_arc}
use Rattle.pf_model.specs.Fraction.{Fraction, IsBelow}
use Rattle.pf_model.proofs.Certificate.{at_most_reflexive}
use Rattle.pf_model.proofs.Facts.{below_at_most}
use Rattle.pf_model.proofs.Integers.{mul_add, mul_comm}
use Rattle.pf_model.proofs.Sums.{sum_where_empty, sum_where_most}
use Rattle.pf_graph.specs.WeightedGraph.{WeightedGraph, IsWeightedGraph}
use Rattle.pf_graph.specs.Labels.{parts, crosses, crossing}
use Rattle.pf_graph.specs.Limits.{IsWithinLimits}
use Rattle.pf_graph.specs.Best.{crossing_of, IsBest, IsStrength, IsPrincipal, IsInPiece, level_zero, level_at, partition_at}
use Rattle.pf_graph.proofs.Levels.{best_uncrossed, crossing_low, uncrossed_best}
use Rattle.pf_graph.proofs.Refinement.{refinement}
use Rattle.pf_principal.specs.PrincipalLaws.{JoinsEdges, AreComponents}

-- ---- the pieces that meet at the first level

zero_in_first : (g : WeightedGraph) (levels : List Fraction) (partitions : List (List ℕ)) → IsPrincipal g levels partitions → IsInPiece levels 0 level_zero
zero_in_first g levels partitions p = record {
  parameter = omega (arith, ints);
  from = at_most_reflexive level_zero;
  to = λ more. below_at_most level_zero (level_at levels 1) (p.levels_are.rise 0 more);
}

first_in_first : (g : WeightedGraph) (levels : List Fraction) (partitions : List (List ℕ)) → IsPrincipal g levels partitions → 0 < length levels →
    IsInPiece levels 0 (level_at levels 1)
first_in_first g levels partitions p some = record {
  parameter = p.levels_are.parameters 1 (omega (arith, some));
  from = below_at_most level_zero (level_at levels 1) (p.levels_are.rise 0 some);
  to = λ more. at_most_reflexive (level_at levels 1);
}

first_in_second : (g : WeightedGraph) (levels : List Fraction) (partitions : List (List ℕ)) → IsPrincipal g levels partitions → 0 < length levels →
    IsInPiece levels 1 (level_at levels 1)
first_in_second g levels partitions p some = record {
  parameter = p.levels_are.parameters 1 (omega (arith, some));
  from = at_most_reflexive (level_at levels 1);
  to = λ more. below_at_most (level_at levels 1) (level_at levels (1 + 1)) (p.levels_are.rise 1 more);
}

best_at_zero : (g : WeightedGraph) (levels : List Fraction) (partitions : List (List ℕ)) → IsPrincipal g levels partitions → IsBest g level_zero (partition_at partitions 0)
best_at_zero g levels partitions p = p.best 0 level_zero (omega arith) (zero_in_first g levels partitions p)

-- no weight crosses the first partition
none_crosses : (g : WeightedGraph) (levels : List Fraction) (partitions : List (List ℕ)) → IsWeightedGraph g → IsPrincipal g levels partitions →
    crossing_of g (partition_at partitions 0) ≡ pos 0
none_crosses g levels partitions graph p =
    best_uncrossed g level_zero (partition_at partitions 0) graph (omega (arith, ints)) refl (best_at_zero g levels partitions p)

-- ---- the strength

-- a value is what crosses less what the parts are worth
value_is_gap : (c q p : ℤ) (k : ℕ) → (c *ℤ q) +ℤ ((pos 1 -ℤ pos k) *ℤ p) ≡ (q *ℤ c) -ℤ (p *ℤ (pos k -ℤ pos 1))
value_is_gap c q p k =
    let a = mul_comm c q in
    let b = mul_comm (pos 1 -ℤ pos k) p in
    let sum : (pos 1 -ℤ pos k) +ℤ (pos k -ℤ pos 1) ≡ pos 0 = omega (arith, ints) in
    let d = sym (mul_add p (pos 1 -ℤ pos k) (pos k -ℤ pos 1)) ∙ ap (λ z. p *ℤ z) sum in
    let none : p *ℤ pos 0 ≡ pos 0 = omega (arith, ints) in
    omega (arith, ints, a, b, d, none)

one_part_value : (c q p : ℤ) (k : ℕ) → c ≡ pos 0 → k ≡ 1 → (c *ℤ q) +ℤ ((pos 1 -ℤ pos k) *ℤ p) ≡ pos 0
one_part_value c q p k e f =
    let a = ap (λ z. z *ℤ q) e in
    let b = ap (λ z. (pos 1 -ℤ pos z) *ℤ p) f in
    omega (arith, ints, a, b)

-- with one part a graph of two vertices or more has a level
some_level : (g : WeightedGraph) (levels : List Fraction) (partitions : List (List ℕ)) → 2 ≤ g.nodes → IsPrincipal g levels partitions →
    parts (partition_at partitions 0) ≡ 1 → 0 < length levels
some_level g levels partitions two p one = elim (cases_lt 0 (length levels)) [
  | inl some ↦ some
  | inr none ↦
      let here : length levels ≡ 0 = omega (arith, none) in
      let all = sym (ap (λ k. parts (partition_at partitions k)) here) ∙ p.last in
      absurd (omega (arith, two, one, all))
]

pub first_level_is_strength : (g : WeightedGraph) (levels : List Fraction) (partitions : List (List ℕ)) → IsWeightedGraph g → 2 ≤ g.nodes →
    IsPrincipal g levels partitions → parts (partition_at partitions 0) ≡ 1 → IsStrength g (level_at levels 1) (partition_at partitions 1)
first_level_is_strength g levels partitions graph two p one =
    let some = some_level g levels partitions two p one in
    let x = level_at levels 1 in
    let first = partition_at partitions 0 in
    let second = partition_at partitions 1 in
    let low : 1 ≤ length levels = omega (arith, some) in
    let own = p.levels_are.partition 1 low in
    let at_first = p.best 0 x (omega arith) (first_in_first g levels partitions p some) in
    let at_second = p.best 1 x low (first_in_second g levels partitions p some) in
    let none = one_part_value (crossing_of g first) x.q x.p (parts first) (none_crosses g levels partitions graph p) one in
    let to = at_first.least second own.full in
    let back = at_second.least first (p.levels_are.partition 0 (omega arith)).full in
    let gap = value_is_gap (crossing_of g second) x.q x.p (parts second) in
    let more = p.parts_rise 0 some in
    record {
      partition = own;
      parameter = p.levels_are.parameters 1 low;
      two = omega (arith, one, more);
      attained = omega (arith, ints, none, to, back, gap);
      least = λ other full parts_are.
          let e = at_first.least other full in
          let f = value_is_gap (crossing_of g other) x.q x.p (parts other) in
          omega (arith, ints, none, e, f);
    }

pub no_strength_apart : (g : WeightedGraph) (levels : List Fraction) (partitions : List (List ℕ)) → IsWeightedGraph g →
    IsPrincipal g levels partitions → 2 ≤ parts (partition_at partitions 0) → IsStrength g level_zero (partition_at partitions 0)
no_strength_apart g levels partitions graph p two =
    let none = none_crosses g levels partitions graph p in
    record {
      partition = p.levels_are.partition 0 (omega arith);
      parameter = omega (arith, ints);
      two = two;
      attained = omega (arith, ints, none);
      least = λ other full parts_are. let low = crossing_low g other graph in omega (arith, ints, low);
    }

-- ---- the components

first_off : (here : Bool) (x a : ℤ) → pos 1 ≤ℤ x → pos 0 ≤ℤ a → (cond here x (pos 0) +ℤ a) ≤ℤ pos 0 → (here ≡ false) × (a ≤ℤ pos 0)
first_off true x a some low most = absurd (omega (arith, ints, some, low, most))
first_off false x a some low most = (refl, omega (arith, ints, most))

-- where each edge weighs something, none crosses if no weight does
off_at : (labels : List ℕ) (ends : List (ℕ × ℕ)) (numbers : List ℤ) → length numbers ≡ length ends → ((i : ℕ) → i < length ends → pos 1 ≤ℤ at_arc numbers i) →
    crossing ends numbers labels ≤ℤ pos 0 → (i : ℕ) → i < length ends → crosses labels (get_or ends i (0, 0)) ≡ false
off_at labels [] numbers full some most i low = absurd (omega (arith, low))
off_at labels (edge ∷ ends) [] full some most i low = absurd (omega (arith, full))
off_at labels (edge ∷ ends) (x ∷ numbers) full some most i low =
    let e = sum_where_most (crosses labels) ends [] numbers (λ j p. let h = some (suc j) (let l = p.in_range in omega (arith, l)) in omega (arith, ints, h)) in
    let f = sum_where_empty (crosses labels) ends in
    let both = first_off (crosses labels edge) x (crossing ends numbers labels) (some 0 (omega arith)) (omega (arith, ints, e, f)) most in
    off_later labels edge ends i low both.0 (λ j l. off_at labels ends numbers (omega (arith, full)) (λ k m. some (suc k) (omega (arith, m))) both.1 j l)
  where
    off_later : (labels : List ℕ) (edge : ℕ × ℕ) (ends : List (ℕ × ℕ)) (i : ℕ) → i < length (edge ∷ ends) → crosses labels edge ≡ false →
        ((j : ℕ) → j < length ends → crosses labels (get_or ends j (0, 0)) ≡ false) → crosses labels (get_or (edge ∷ ends) i (0, 0)) ≡ false
    off_later labels edge ends zero low here later = here
    off_later labels edge ends (suc i) low here later = later i (omega (arith, low))

from_not : (b : Bool) → not b ≡ false → b ≡ true
from_not true e = refl
from_not false e = cc

joins_when_none : (g : WeightedGraph) (labels : List ℕ) → IsWithinLimits g → crossing_of g labels ≡ pos 0 → JoinsEdges g labels
joins_when_none g labels l none = record {
  joins = λ i low.
      let off = off_at labels g.ends g.weights l.graph.weights_full (λ j h. (l.weights j h).low) (omega (arith, ints, none)) i low in
      eqb-true _ _ (from_not _ off);
}

none_when_joined : (g : WeightedGraph) (labels : List ℕ) → IsWeightedGraph g → JoinsEdges g labels → crossing_of g labels ≡ pos 0
none_when_joined g labels graph joined =
    let high = sum_where_most (crosses labels) g.ends g.weights [] (λ i p. absurd (both_ways _ (ap not (eq-eqb _ _ (joined.joins i p.in_range))) p.passes)) in
    let none = sum_where_empty (crosses labels) g.ends in
    let low = crossing_low g labels graph in
    omega (arith, ints, high, none, low)

-- a level above 0 in the first piece
record HasLater (levels : List Fraction) : Type 0 where
  at : Fraction
  above : IsBelow level_zero at
  inside : IsInPiece levels 0 at

later : (g : WeightedGraph) (levels : List Fraction) (partitions : List (List ℕ)) → IsPrincipal g levels partitions → HasLater levels
later g levels partitions p = elim (cases_lt 0 (length levels)) [
  | inl some ↦ record { at = level_at levels 1; above = p.levels_are.rise 0 some; inside = first_in_first g levels partitions p some }
  | inr none ↦ record {
    at = record { p = pos 1; q = pos 1 };
    above = omega (arith, ints);
    inside = record { parameter = omega (arith, ints); from = omega (arith, ints); to = λ more. absurd (omega (arith, more, none)) };
  }
]

pub first_is_components : (g : WeightedGraph) (levels : List Fraction) (partitions : List (List ℕ)) → IsWithinLimits g → IsPrincipal g levels partitions →
    AreComponents g (partition_at partitions 0)
first_is_components g levels partitions l p = record {
  joined = joins_when_none g (partition_at partitions 0) l (none_crosses g levels partitions l.graph p);
  finest = λ other full joined.
      let x = later g levels partitions p in
      refinement g level_zero x.at other (partition_at partitions 0) l.graph (omega (arith, ints)) x.inside.parameter x.above
      (uncrossed_best g level_zero other l.graph (omega (arith, ints)) refl full (none_when_joined g other l.graph joined))
      (p.best 0 x.at (omega arith) x.inside);
}
