-- Right answers on a worked network: the texts of its least cuts, of its whole least-cut function and of a verdict.
use Rattle.std.proofs.Common.{◌≡◌, ℕ, ◌<◌, ◌^◌, List, [], ◌∷◌, Bool, true, false, refl, arith}
use Rattle.std.specs.Prelude.{ℤ, pos, codes}
use Rattle.std.specs.Fmt.{digits}
use Rattle.std.proofs.lemmas.Int.{ints}
use Rattle.std.proofs.lemmas.List.Elements.{All-nil, All-cons}
use Rattle.pf_model.specs.Fraction.{Fraction, IsLowest, lowest}
use Rattle.pf_model.specs.Cut.{IsSmallestLeast, has}
use Rattle.pf_model.specs.Flow.{IsFlow}
use Rattle.pf_model.specs.Residual.{IsReach}
use Rattle.pf_model.specs.Network.{IsMonotone, IsNetworkCut, IsInInterval, network_at}
use Rattle.pf_model.specs.Curve.{CertifiesCurve}
use Rattle.pf_model.specs.Answer.{Curve, IsWithinSize, IsFractionShape, IsFlowShape, IsCurveShape}
use Rattle.pf_model.proofs.Affine.{proper_at}
use Rattle.pf_model.proofs.Certificate.{certified_is_curve}
use Rattle.pf_model.proofs.CurveTest.{certified_by_tests, reach_from_test}
use Rattle.pf_model.proofs.Duality.{smallest_from_reach}
use Rattle.pf_model.proofs.FlowTest.{flow_from_test}
use Rattle.pf_model.proofs.Lowest.{lowest_is}
use Rattle.pf_par.specs.Answers.{point_text, curve_text}
use Rattle.pf_text.specs.Verdict.{verdict_text}
use Rattle.pf_par.specs.Right.{IsRightCurve, IsRightCheck, IsRightPoint}
use Rattle.pf_par.proofs.ParLaw.{accepted_is_monotone}
use Rattle.pf_text.proofs.Rows.{text}
use Rattle.pf_par.proofs.Rows.{two_lines, two, two_is_read}

two_is_monotone : IsMonotone two
two_is_monotone = accepted_is_monotone (text two_lines) (record { problem = two; rest = []; line = 7 }) two_is_read

abbrev whole : ℕ → Fraction
whole p = record { p = pos p; q = pos 1 }

abbrev first_side : List Bool
first_side = true ∷ false ∷ false ∷ []

abbrev second_side : List Bool
second_side = true ∷ true ∷ false ∷ []

abbrev fours : List ℤ
fours = pos 4 ∷ pos 4 ∷ []

abbrev zeros : List ℤ
zeros = pos 0 ∷ pos 0 ∷ []

inside : (p : ℕ) → p < 11 → IsInInterval two (whole p)
inside p small = record { parameter = omega (arith, ints); low = omega (arith, ints); high = omega (arith, ints) }

first_cut : IsNetworkCut two first_side
first_cut = record { full = refl; with_source = refl; without_sink = refl }

second_cut : IsNetworkCut two second_side
second_cut = record { full = refl; with_source = refl; without_sink = refl }

flow_at_4 : IsFlow (network_at two (whole 4)) fours
flow_at_4 = flow_from_test _ _ refl

reach_at_4 : IsReach (network_at two (whole 4)) fours first_side
reach_at_4 = reach_from_test _ _ _ (omega arith) refl

smallest_by : (p : ℕ) (flow : List ℤ) (side : List Bool) → p < 11 → IsFlow (network_at two (whole p)) flow → IsReach (network_at two (whole p)) flow side → has side 2 ≡ false
    → IsSmallestLeast (network_at two (whole p)) side
smallest_by p flow side small f r out = smallest_from_reach (network_at two (whole p)) flow side (proper_at two (whole p) two_is_monotone (inside p small)) f r out

-- ---- shapes

whole_shape : (p : ℕ) → p < 11 → IsLowest (whole p) → IsFractionShape (whole p)
whole_shape p small alone = record {
  bounds = record { p_low = omega (arith, ints); p_high = omega (arith, ints); parameter = omega (arith, ints); q_high = omega (arith, ints) };
  lowest = alone;
}

lowest_0 : IsLowest (whole 0)
unfolding lowest
lowest_0 = (lowest_is (whole 0) (omega (arith, ints))).lowest

lowest_4 : IsLowest (whole 4)
unfolding lowest
lowest_4 = (lowest_is (whole 4) (omega (arith, ints))).lowest

lowest_10 : IsLowest (whole 10)
unfolding lowest
lowest_10 = (lowest_is (whole 10) (omega (arith, ints))).lowest

small_number : (n : ℕ) → n < 11 → IsWithinSize (2 ^ 104) (pos n)
small_number n small = record { low = omega (arith, ints); high = omega (arith, ints) }

flow_shape : (n : ℕ) → n < 11 → IsFlowShape two (pos n ∷ pos n ∷ [])
flow_shape n small = record {
  full = refl;
  each = All-cons (IsWithinSize (2 ^ 104)) (pos n) (pos n ∷ []) (small_number n small) (All-cons (IsWithinSize (2 ^ 104)) (pos n) [] (small_number n small) (All-nil (IsWithinSize (2 ^ 104))));
}

-- ---- at 08/2

at_is_right : IsRightPoint (lowest (record { p = pos 8; q = pos 2 })) two
    (text (codes "o at" ∷ codes "b 4 1 4" ∷ codes "s 0 1 100" ∷ codes "f 4 4" ∷ codes "end" ∷ []))
unfolding text digits point_text lowest
at_is_right = record {
  point = record { at = whole 4; side = first_side; flow = fours };
  shape = record { at = whole_shape 4 (omega arith) lowest_4; side = first_cut; flow = flow_shape 4 (omega arith) };
  parameter = refl;
  best = record {
    parameter = omega (arith, ints);
    smallest = smallest_by 4 fours first_side (omega arith) flow_at_4 reach_at_4 refl;
    flow_is = flow_at_4;
    value_is = refl;
  };
  text_is = refl;
}

-- ---- the whole function

abbrev curve : Curve
curve = record {
  points = whole 0 ∷ whole 4 ∷ whole 10 ∷ [];
  cuts = first_side ∷ second_side ∷ [];
  flows = zeros ∷ fours ∷ fours ∷ [];
}

abbrev curve_lines : List ℕ
curve_lines = text (codes "o curve" ∷ codes "k 2" ∷ codes "b 0 0 1 0" ∷ codes "s 1 0 1 100" ∷ codes "b 1 4 1 4" ∷ codes "s 2 4 0 110" ∷ codes "b 2 10 1 4" ∷ codes "f 0 0 0" ∷ codes "f 1 4 4" ∷ codes "f 2 4 4" ∷ codes "end" ∷ [])

certificate : CertifiesCurve two curve.points curve.cuts curve.flows
certificate = certified_by_tests two curve.points curve.cuts curve.flows (record {
  source = omega arith;
  some = omega arith;
  point_count = refl;
  flow_count = refl;
  parameters = refl;
  low = refl;
  high = refl;
  rise = refl;
  flow_is = refl;
  left = refl;
  right = refl;
  reach = refl;
  cut = refl;
  slopes = refl;
})

curve_shape : IsCurveShape two curve
curve_shape = record {
  some = omega arith;
  count = refl;
  flow_count = refl;
  points = All-cons IsFractionShape (whole 0) (whole 4 ∷ whole 10 ∷ []) (whole_shape 0 (omega arith) lowest_0)
      (All-cons IsFractionShape (whole 4) (whole 10 ∷ []) (whole_shape 4 (omega arith) lowest_4)
      (All-cons IsFractionShape (whole 10) [] (whole_shape 10 (omega arith) lowest_10) (All-nil IsFractionShape)));
  cuts = All-cons (IsNetworkCut two) first_side (second_side ∷ []) first_cut (All-cons (IsNetworkCut two) second_side [] second_cut (All-nil (IsNetworkCut two)));
  flows = All-cons (IsFlowShape two) zeros (fours ∷ fours ∷ []) (flow_shape 0 (omega arith))
      (All-cons (IsFlowShape two) fours (fours ∷ []) (flow_shape 4 (omega arith))
      (All-cons (IsFlowShape two) fours [] (flow_shape 4 (omega arith)) (All-nil (IsFlowShape two))));
}

curve_is_right : IsRightCurve two curve_lines
unfolding text digits curve_text
curve_is_right = record { curve = curve; shape = curve_shape; best = certified_is_curve two curve.points curve.cuts curve.flows two_is_monotone certificate; certificate = certificate; text_is = refl }

-- ---- the verdict on it, and on nothing

yes_is_right : IsRightCheck two curve_lines (text (codes "o check" ∷ codes "yes" ∷ codes "end" ∷ []))
unfolding text digits curve_text verdict_text
yes_is_right = record { verdict = true; exact = (λ same. record { curve = curve; shape = curve_shape; certificate = certificate; text_is = refl }, λ certified. refl); text_is = refl }

not_empty : (c : Curve) → [] ≡ curve_text two c → ⊥
unfolding curve_text
not_empty c e = cc

no_is_right : IsRightCheck two [] (text (codes "o check" ∷ codes "no" ∷ codes "end" ∷ []))
unfolding text verdict_text
no_is_right = record { verdict = false; exact = (λ same. absurd cc, λ certified. absurd (not_empty certified.curve certified.text_is)); text_is = refl }
