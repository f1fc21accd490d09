-- Small graphs whose strength and principal partition are proved from the definition, over all lists of labels.
use Rattle.std.proofs.Common.{◌≡◌, ◌≢◌, ℕ, zero, suc, ◌+◌, ◌<◌, ◌≤◌, List, [], ◌∷◌, length, get_or, take, refl, Bool, true, false, cond, eqb, not, ◌||◌, arith, sym, ◌∙◌}
use Rattle.std.specs.Prelude.{ℤ, ◌+ℤ◌, ◌-ℤ◌, ◌*ℤ◌, ◌≤ℤ◌, pos}
use Rattle.std.proofs.lemmas.Int.{ints}
use Rattle.std.proofs.lemmas.Bool.{eq-eqb, eqb-true}
use Rattle.pf_model.specs.Fraction.{IsParameter, IsBelow}
use Rattle.pf_model.specs.Cut.{at_arc}
use Rattle.pf_graph.specs.WeightedGraph.{IsWeightedGraph}
use Rattle.pf_graph.specs.Labels.{label, parts, greatest_label, IsPartition}
use Rattle.pf_graph.specs.Best.{crossing_of, partition_value, IsBest, level_at, partition_at, IsLevels, IsInPiece}
use Rattle.pf_graph.specs.Laws.{IsBestBetween}
use Rattle.pf_graph.specs.Worked.{fraction, two, three, six, four, triangle, one_edge, two_apart, parallel_edges, TriangleStrength, NoTwoParts, NoSkippedLevel, EdgePrincipal, ApartPrincipal, ApartStrength, ParallelStrength}
use Rattle.pf_graph.proofs.Principal.{principal_from_best}

-- three labels
three_low : (v : ℕ) → v < 3 → 1 ≤ label (three 1 2 3) v
three_low zero h = omega arith
three_low (suc zero) h = omega arith
three_low (suc (suc zero)) h = omega arith
three_low (suc (suc (suc v))) h = absurd (omega (arith, h))

three_high : (v : ℕ) → v < 3 → label (three 1 2 3) v ≤ greatest_label (take v (three 1 2 3)) + 1
three_high zero h = omega arith
three_high (suc zero) h = omega arith
three_high (suc (suc zero)) h = omega arith
three_high (suc (suc (suc v))) h = absurd (omega (arith, h))

ratio : (p q r : Bool) → (p ≡ true → r ≡ true → q ≡ true) → 2 ≤ cond (p || (r || false)) 0 1 + (cond (q || false) 0 1 + (1 + 0)) →
    (pos 3 *ℤ (pos (cond (p || (r || false)) 0 1 + (cond (q || false) 0 1 + (1 + 0))) -ℤ pos 1))
    ≤ℤ (pos 2 *ℤ (cond (not p) (pos 1) (pos 0) +ℤ (cond (not q) (pos 1) (pos 0) +ℤ (cond (not r) (pos 1) (pos 0) +ℤ pos 0))))
ratio true true true h k = absurd (omega (arith, k))
ratio true true false h k = absurd (omega (arith, k))
ratio true false true h k = absurd (let e = h refl refl in cc)
ratio true false false h k = omega (arith, ints)
ratio false true true h k = absurd (omega (arith, k))
ratio false true false h k = omega (arith, ints)
ratio false false true h k = omega (arith, ints)
ratio false false false h k = omega (arith, ints)

triangle_least : (other : List ℕ) → length other ≡ 3 → 2 ≤ parts other → (pos 3 *ℤ (pos (parts other) -ℤ pos 1)) ≤ℤ (pos 2 *ℤ crossing_of triangle other)
triangle_least [] full some = absurd (omega arith)
triangle_least (a ∷ []) full some = absurd (omega arith)
triangle_least (a ∷ (b ∷ [])) full some = absurd (omega arith)
triangle_least (a ∷ (b ∷ (c ∷ []))) full some =
    ratio (eqb a b) (eqb b c) (eqb a c) (λ e f. eq-eqb b c (sym (eqb-true a b e) ∙ eqb-true a c f)) some
triangle_least (a ∷ (b ∷ (c ∷ (d ∷ rest)))) full some = absurd (omega arith)

pub triangle_strength : TriangleStrength
triangle_strength = record {
  partition = record { full = refl; low = three_low; high = three_high };
  parameter = omega (arith, ints);
  two = omega arith;
  attained = refl;
  least = triangle_least;
}

pub no_two_parts : NoTwoParts
no_two_parts s = let h = s.least (three 1 2 3) refl (omega arith) in omega (arith, ints, h)

pub no_skipped_level : NoSkippedLevel
no_skipped_level p =
    let here : IsInPiece (fraction 7 5 ∷ []) 0 (fraction 7 5) = record { parameter = omega (arith, ints); from = omega (arith, ints); to = λ low. omega (arith, ints) } in
    let best = p.best 0 (fraction 7 5) (omega arith) here in
    let h = best.least (six 1 1 1 2 2 2) refl in
    omega (arith, ints, h)

-- two vertices and an edge: at level 1 every list of labels has the value 0
first_end : (i : ℕ) → i < 1 → (get_or one_edge.ends i (0, 0)).0 < 2
first_end zero h = omega arith
first_end (suc i) h = absurd (omega (arith, h))

second_end : (i : ℕ) → i < 1 → (get_or one_edge.ends i (0, 0)).1 < 2
second_end zero h = omega arith
second_end (suc i) h = absurd (omega (arith, h))

apart_ends : (i : ℕ) → i < 1 → (get_or one_edge.ends i (0, 0)).0 ≢ (get_or one_edge.ends i (0, 0)).1
apart_ends zero h = λ e. omega (arith, e)
apart_ends (suc i) h = absurd (omega (arith, h))

one_low : (i : ℕ) → i < 1 → pos 0 ≤ℤ at_arc one_edge.weights i
one_low zero h = omega (arith, ints)
one_low (suc i) h = absurd (omega (arith, h))

two_low : (v : ℕ) → v < 2 → pos 0 ≤ℤ at_arc one_edge.costs v
two_low zero h = omega (arith, ints)
two_low (suc zero) h = omega (arith, ints)
two_low (suc (suc v)) h = absurd (omega (arith, h))

edge_graph : IsWeightedGraph one_edge
edge_graph = record {
  some = omega arith;
  graph = record { tails = first_end; heads = second_end };
  apart = apart_ends;
  weights_full = refl;
  costs_full = refl;
  prices_full = refl;
  weights_low = one_low;
  costs_low = two_low;
  prices_low = one_low;
}

level : (p : Bool) → ((cond (not p) (pos 1) (pos 0) +ℤ pos 0) *ℤ pos 1) +ℤ ((pos 1 -ℤ pos (cond (p || false) 0 1 + (1 + 0))) *ℤ pos 1) ≡ pos 0
level true = refl
level false = refl

edge_value : (other : List ℕ) → length other ≡ 2 → partition_value one_edge other (fraction 1 1) ≡ pos 0
edge_value [] full = absurd (omega arith)
edge_value (a ∷ []) full = absurd (omega arith)
edge_value (a ∷ (b ∷ [])) full = level (eqb a b)
edge_value (a ∷ (b ∷ (c ∷ rest))) full = absurd (omega arith)

edge_best : (d : List ℕ) → length d ≡ 2 → IsBest one_edge (fraction 1 1) d
edge_best d full = record { full = full; least = λ other long. let e = edge_value d full in let f = edge_value other long in omega (arith, ints, e, f) }

two_rule : (b : ℕ) → 1 ≤ b → (v : ℕ) → v < 2 → 1 ≤ label (two 1 b) v
two_rule b low zero h = omega arith
two_rule b low (suc zero) h = low
two_rule b low (suc (suc v)) h = absurd (omega (arith, h))

two_next : (b : ℕ) → b ≤ 2 → (v : ℕ) → v < 2 → label (two 1 b) v ≤ greatest_label (take v (two 1 b)) + 1
two_next b high zero h = omega arith
two_next b high (suc zero) h = high
two_next b high (suc (suc v)) h = absurd (omega (arith, h))

two_is : (b : ℕ) → 1 ≤ b → b ≤ 2 → IsPartition 2 (two 1 b)
two_is b low high = record { full = refl; low = two_rule b low; high = two_next b high }

edge_parameters : (j : ℕ) → j ≤ 1 → IsParameter (level_at (fraction 1 1 ∷ []) j)
edge_parameters zero h = omega (arith, ints)
edge_parameters (suc zero) h = omega (arith, ints)
edge_parameters (suc (suc j)) h = absurd (omega (arith, h))

edge_rise : (j : ℕ) → j < 1 → IsBelow (level_at (fraction 1 1 ∷ []) j) (level_at (fraction 1 1 ∷ []) (j + 1))
edge_rise zero h = omega (arith, ints)
edge_rise (suc j) h = absurd (omega (arith, h))

edge_partition : (j : ℕ) → j ≤ 1 → IsPartition 2 (partition_at (two 1 1 ∷ (two 1 2 ∷ [])) j)
edge_partition zero h = two_is 1 (omega arith) (omega arith)
edge_partition (suc zero) h = two_is 2 (omega arith) (omega arith)
edge_partition (suc (suc j)) h = absurd (omega (arith, h))

edge_left : (j : ℕ) → j < 1 → IsBest one_edge (level_at (fraction 1 1 ∷ []) (j + 1)) (partition_at (two 1 1 ∷ (two 1 2 ∷ [])) j)
edge_left zero h = edge_best (two 1 1) refl
edge_left (suc j) h = absurd (omega (arith, h))

edge_right : (j : ℕ) → j < 1 → IsBest one_edge (level_at (fraction 1 1 ∷ []) (j + 1)) (partition_at (two 1 1 ∷ (two 1 2 ∷ [])) (j + 1))
edge_right zero h = edge_best (two 1 2) refl
edge_right (suc j) h = absurd (omega (arith, h))

edge_parts : (j : ℕ) → j < 1 → parts (partition_at (two 1 1 ∷ (two 1 2 ∷ [])) j) < parts (partition_at (two 1 1 ∷ (two 1 2 ∷ [])) (j + 1))
edge_parts zero h = omega arith
edge_parts (suc j) h = absurd (omega (arith, h))

edge_levels : IsLevels 2 (fraction 1 1 ∷ []) (two 1 1 ∷ (two 1 2 ∷ []))
edge_levels = record { count = refl; parameters = edge_parameters; rise = edge_rise; partition = edge_partition }

edge_between : IsBestBetween one_edge (fraction 1 1 ∷ []) (two 1 1 ∷ (two 1 2 ∷ []))
edge_between = record {
  levels_are = edge_levels;
  first = refl;
  left = edge_left;
  right = edge_right;
  parts_rise = edge_parts;
  last = refl;
}

pub edge_principal : EdgePrincipal
edge_principal = principal_from_best one_edge (fraction 1 1 ∷ []) (two 1 1 ∷ (two 1 2 ∷ [])) edge_graph edge_between

-- two vertices without an edge
none_below : (P : ℕ → Type 0) (k : ℕ) → k < 0 → P k
none_below P k h = absurd (omega (arith, h))

apart_graph : IsWeightedGraph two_apart
apart_graph = record {
  some = omega arith;
  graph = record { tails = none_below (λ i. _); heads = none_below (λ i. _) };
  apart = none_below (λ i. _);
  weights_full = refl;
  costs_full = refl;
  prices_full = refl;
  weights_low = none_below (λ i. _);
  costs_low = two_low;
  prices_low = none_below (λ i. _);
}

apart_parameters : (j : ℕ) → j ≤ 0 → IsParameter (level_at [] j)
apart_parameters zero h = omega (arith, ints)
apart_parameters (suc j) h = absurd (omega (arith, h))

apart_partition : (j : ℕ) → j ≤ 0 → IsPartition 2 (partition_at (two 1 2 ∷ []) j)
apart_partition zero h = two_is 2 (omega arith) (omega arith)
apart_partition (suc j) h = absurd (omega (arith, h))

apart_levels : IsLevels 2 [] (two 1 2 ∷ [])
apart_levels = record { count = refl; parameters = apart_parameters; rise = none_below (λ j. _); partition = apart_partition }

apart_between : IsBestBetween two_apart [] (two 1 2 ∷ [])
apart_between = record {
  levels_are = apart_levels;
  first = refl;
  left = none_below (λ j. _);
  right = none_below (λ j. _);
  parts_rise = none_below (λ j. _);
  last = refl;
}

pub apart_principal : ApartPrincipal
apart_principal = principal_from_best two_apart [] (two 1 2 ∷ []) apart_graph apart_between

-- two edges that do not meet
four_low : (v : ℕ) → v < 4 → 1 ≤ label (four 1 1 2 2) v
four_low zero h = omega arith
four_low (suc zero) h = omega arith
four_low (suc (suc zero)) h = omega arith
four_low (suc (suc (suc zero))) h = omega arith
four_low (suc (suc (suc (suc v)))) h = absurd (omega (arith, h))

four_high : (v : ℕ) → v < 4 → label (four 1 1 2 2) v ≤ greatest_label (take v (four 1 1 2 2)) + 1
four_high zero h = omega arith
four_high (suc zero) h = omega arith
four_high (suc (suc zero)) h = omega arith
four_high (suc (suc (suc zero))) h = omega arith
four_high (suc (suc (suc (suc v)))) h = absurd (omega (arith, h))

apart_ratio : (p q : Bool) (n : ℤ) → (pos 0 *ℤ n) ≤ℤ (pos 1 *ℤ (cond (not p) (pos 1) (pos 0) +ℤ (cond (not q) (pos 1) (pos 0) +ℤ pos 0)))
apart_ratio true true n = omega (arith, ints)
apart_ratio true false n = omega (arith, ints)
apart_ratio false true n = omega (arith, ints)
apart_ratio false false n = omega (arith, ints)

pub apart_strength : ApartStrength
apart_strength = record {
  partition = record { full = refl; low = four_low; high = four_high };
  parameter = omega (arith, ints);
  two = omega arith;
  attained = refl;
  least = λ other full some. apart_ratio (eqb (label other 0) (label other 1)) (eqb (label other 2) (label other 3)) (pos (parts other) -ℤ pos 1);
}

-- two edges between the same vertices
parallel_ratio : (p r : Bool) → (r ≡ true → p ≡ true) → 2 ≤ cond (p || false) 0 1 + (1 + 0) →
    (pos 5 *ℤ (pos (cond (p || false) 0 1 + (1 + 0)) -ℤ pos 1)) ≤ℤ (pos 1 *ℤ (cond (not p) (pos 2) (pos 0) +ℤ (cond (not r) (pos 3) (pos 0) +ℤ pos 0)))
parallel_ratio true r h k = absurd (omega (arith, k))
parallel_ratio false true h k = absurd (let e = h refl in cc)
parallel_ratio false false h k = omega (arith, ints)

parallel_least : (other : List ℕ) → length other ≡ 2 → 2 ≤ parts other → (pos 5 *ℤ (pos (parts other) -ℤ pos 1)) ≤ℤ (pos 1 *ℤ crossing_of parallel_edges other)
parallel_least [] full some = absurd (omega arith)
parallel_least (a ∷ []) full some = absurd (omega arith)
parallel_least (a ∷ (b ∷ [])) full some = parallel_ratio (eqb a b) (eqb b a) (λ e. eq-eqb a b (sym (eqb-true b a e))) some
parallel_least (a ∷ (b ∷ (c ∷ rest))) full some = absurd (omega arith)

pub parallel_strength : ParallelStrength
parallel_strength = record {
  partition = two_is 2 (omega arith) (omega arith);
  parameter = omega (arith, ints);
  two = omega arith;
  attained = refl;
  least = parallel_least;
}
