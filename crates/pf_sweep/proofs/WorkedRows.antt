-- Parameters, texts and right answers of worked sweeps, by computation.
use Rattle.std.proofs.Common.{◌≡◌, ℕ, zero, suc, ◌<◌, List, [], ◌∷◌, map, Bool, true, false, refl, arith}
use Rattle.std.specs.Prelude.{ℤ, pos, codes}
use Rattle.std.specs.Fmt.{digits}
use Rattle.std.proofs.lemmas.Int.{ints}
use Rattle.std.proofs.lemmas.List.Elements.{All-nil, All-cons}
use Rattle.pf_model.specs.declared.Sense.TheVariants.{Rising}
use Rattle.pf_model.specs.Fraction.{Fraction, IsLowest, lowest}
use Rattle.pf_model.specs.Cut.{IsSmallestLeast, has}
use Rattle.pf_model.specs.Flow.{IsFlow}
use Rattle.pf_model.specs.Residual.{IsReach}
use Rattle.pf_model.specs.Network.{Network, IsMonotone, IsMonotoneArc, IsInInterval, network_at}
use Rattle.pf_model.specs.Answer.{Row, IsFractionShape}
use Rattle.pf_model.proofs.Affine.{proper_at}
use Rattle.pf_model.proofs.CurveTest.{reach_from_test}
use Rattle.pf_model.proofs.Duality.{smallest_from_reach}
use Rattle.pf_model.proofs.FlowTest.{flow_from_test}
use Rattle.pf_model.proofs.Lowest.{lowest_is}
use Rattle.pf_text.proofs.Rows.{text}
use Rattle.pf_sweep.specs.Parameters.{is_too_fine, sweep_parameter}
use Rattle.pf_sweep.specs.Rows.{IsRightRow, row_at}
use Rattle.pf_sweep.specs.Text.{sweep_text, IsRightSweep}

-- two arcs in a row, the first of which grows with the parameter
abbrev two : Network
two = record {
  nodes = 3;
  source = 0;
  sink = 2;
  sense = Rising;
  low = record { p = pos 0; q = pos 1 };
  high = record { p = pos 10; q = pos 1 };
  arcs = record { tail = 0; head = 1; a = pos 0; b = pos 1 } ∷ record { tail = 1; head = 2; a = pos 4; b = pos 0 } ∷ [];
}

-- two nodes without arcs, between two fine parameters
abbrev fine : Network
fine = record { nodes = 2; source = 0; sink = 1; sense = Rising; low = record { p = pos 1; q = pos 1000000 }; high = record { p = pos 2; q = pos 999999 }; arcs = [] }

abbrev whole : ℕ → Fraction
whole p = record { p = pos p; q = pos 1 }

-- ---- two steps are too fine, and one is not

two_steps_are_too_fine : is_too_fine 2 fine
    ≡ true
two_steps_are_too_fine = refl

one_step_is_not : is_too_fine 1 fine
    ≡ false
one_step_is_not = refl

one_step_is_printed : sweep_text (record { at = fine.low; value = pos 0; size = 1 } ∷ record { at = fine.high; value = pos 0; size = 1 } ∷ [])
    ≡ text (codes "o sweep" ∷ codes "k 1" ∷ codes "x 0 1 1000000 0 1" ∷ codes "x 1 2 999999 0 1" ∷ codes "end" ∷ [])
unfolding text digits sweep_text
one_step_is_printed = refl

-- ---- four steps

parameters_of_sweep : map (sweep_parameter two 4) (0 ∷ 1 ∷ 2 ∷ 3 ∷ 4 ∷ [])
    ≡ whole 0 ∷ record { p = pos 5; q = pos 2 } ∷ whole 5 ∷ record { p = pos 15; q = pos 2 } ∷ whole 10 ∷ []
unfolding lowest
parameters_of_sweep = refl

sweep_is_printed : sweep_text (record { at = whole 0; value = pos 0; size = 1 } ∷ record { at = record { p = pos 5; q = pos 2 }; value = pos 5; size = 1 } ∷ record { at = whole 5; value = pos 4; size = 2 } ∷ record { at = record { p = pos 15; q = pos 2 }; value = pos 8; size = 2 } ∷ record { at = whole 10; value = pos 4; size = 2 } ∷ [])
    ≡ text (codes "o sweep" ∷ codes "k 4" ∷ codes "x 0 0 1 0 1" ∷ codes "x 1 5 2 5 1" ∷ codes "x 2 5 1 4 2" ∷ codes "x 3 15 2 8 2" ∷ codes "x 4 10 1 4 2" ∷ codes "end" ∷ [])
unfolding text digits sweep_text
sweep_is_printed = refl

-- ---- one step, and why its text is right

two_is_monotone : IsMonotone two
two_is_monotone = record {
  source = omega arith;
  sink = omega arith;
  apart = λ same. omega (arith, same);
  low = omega (arith, ints);
  high = omega (arith, ints);
  interval = omega (arith, ints);
  each = All-cons (IsMonotoneArc two) (record { tail = 0; head = 1; a = pos 0; b = pos 1 }) (record { tail = 1; head = 2; a = pos 4; b = pos 0 } ∷ [])
      (record { tail = omega arith; head = omega arith; slope = refl; low = omega (arith, ints); high = omega (arith, ints) })
      (All-cons (IsMonotoneArc two) (record { tail = 1; head = 2; a = pos 4; b = pos 0 }) []
      (record { tail = omega arith; head = omega arith; slope = refl; low = omega (arith, ints); high = omega (arith, ints) })
      (All-nil (IsMonotoneArc two)));
}

inside : (p : ℕ) → p < 11 → IsInInterval two (whole p)
inside p small = record { parameter = omega (arith, ints); low = omega (arith, ints); high = omega (arith, ints) }

abbrev first_side : List Bool
first_side = true ∷ false ∷ false ∷ []

abbrev second_side : List Bool
second_side = true ∷ true ∷ false ∷ []

abbrev zeros : List ℤ
zeros = pos 0 ∷ pos 0 ∷ []

abbrev fours : List ℤ
fours = pos 4 ∷ pos 4 ∷ []

smallest_by : (p : ℕ) (flow : List ℤ) (side : List Bool) → p < 11 → IsFlow (network_at two (whole p)) flow → IsReach (network_at two (whole p)) flow side → has side 2 ≡ false
    → IsSmallestLeast (network_at two (whole p)) side
smallest_by p flow side small f r out = smallest_from_reach (network_at two (whole p)) flow side (proper_at two (whole p) two_is_monotone (inside p small)) f r out

smallest_at_0 : IsSmallestLeast (network_at two (whole 0)) first_side
smallest_at_0 = smallest_by 0 zeros first_side (omega arith) (flow_from_test _ _ refl) (reach_from_test _ _ _ (omega arith) refl) refl

smallest_at_10 : IsSmallestLeast (network_at two (whole 10)) second_side
smallest_at_10 = smallest_by 10 fours second_side (omega arith) (flow_from_test _ _ refl) (reach_from_test _ _ _ (omega arith) refl) refl

whole_shape : (p : ℕ) → p < 11 → IsLowest (whole p) → IsFractionShape (whole p)
whole_shape p small alone = record {
  bounds = record { p_low = omega (arith, ints); p_high = omega (arith, ints); parameter = omega (arith, ints); q_high = omega (arith, ints) };
  lowest = alone;
}

lowest_0 : IsLowest (whole 0)
unfolding lowest
lowest_0 = (lowest_is (whole 0) (omega (arith, ints))).lowest

lowest_10 : IsLowest (whole 10)
unfolding lowest
lowest_10 = (lowest_is (whole 10) (omega (arith, ints))).lowest

abbrev rows : List Row
rows = record { at = whole 0; value = pos 0; size = 1 } ∷ record { at = whole 10; value = pos 4; size = 2 } ∷ []

rows_are_right : (j : ℕ) → j < 2 → IsRightRow two (sweep_parameter two 1 j) (row_at two rows j)
unfolding lowest
rows_are_right zero low = record {
  shape = record { at = whole_shape 0 (omega arith) lowest_0; value = record { low = omega (arith, ints); high = omega (arith, ints) }; size = omega arith };
  parameter = refl;
  value = record { side = first_side; least = smallest_at_0.least; value_is = refl };
  size = record { side = first_side; least = smallest_at_0; count_is = refl };
}
rows_are_right (suc zero) low = record {
  shape = record { at = whole_shape 10 (omega arith) lowest_10; value = record { low = omega (arith, ints); high = omega (arith, ints) }; size = omega arith };
  parameter = refl;
  value = record { side = second_side; least = smallest_at_10.least; value_is = refl };
  size = record { side = second_side; least = smallest_at_10; count_is = refl };
}
rows_are_right (suc (suc j)) low = absurd (omega (arith, low))

sweep_is_right : IsRightSweep 1 two (text (codes "o sweep" ∷ codes "k 1" ∷ codes "x 0 0 1 0 1" ∷ codes "x 1 10 1 4 2" ∷ codes "end" ∷ []))
unfolding text digits sweep_text
sweep_is_right = record { rows = rows; right = record { count_is = refl; each = rows_are_right }; text_is = refl }
