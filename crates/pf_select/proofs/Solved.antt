-- What is read off a curve, one item after the other, and that it is the best schedule.
use Rattle.std.proofs.Common.{◌≡◌, ℕ, suc, ◌+◌, ◌-◌, ◌^◌, ◌<◌, List, [], ◌∷◌, ◌++◌, length, get_or, take, drop, map, Bool, false, not, arith, ap, sym, ◌∙◌, subst, add-one}
use Rattle.std.specs.Prelude.{ℤ, All}
use Rattle.std.specs.List.{slice_range}
use Rattle.std.proofs.lemmas.List.{length-drop, get_or_default, get_or-take, get_or-drop, map_more}
use Rattle.std.proofs.lemmas.List.Elements.{All-get_or}
use Rattle.pf_model.specs.Fraction.{Fraction}
use Rattle.pf_model.specs.Answer.{Curve, IsFractionShape, IsWithinSize, IsFlowShape, IsCurveShape}
use Rattle.pf_model.specs.Network.{Network, IsNetworkCut}
use Rattle.pf_model.specs.Curve.{IsCurve, CertifiesCurve, point_at, cut_at, flow_at}
use Rattle.pf_select.specs.Problem.{SelectionProblem, IsBoundedProblem, zero_price, IsBestSchedule}
use Rattle.pf_select.specs.Certificate.{ScheduleAnswer, CertifiesSchedule}
use Rattle.pf_select.specs.Right.{IsChargesShape, IsScheduleShape}
use Rattle.pf_select.specs.Reduction.{select_net, selection_of, charges_of}
use Rattle.pf_select.specs.Carried.{ArePrices, AreSelections, AreCarried, IsCarriedBack, AreAllWide}
use Rattle.pf_select.proofs.Soundness.{certificate_proves}
use Rattle.pf_select.proofs.NetArcs.{arcs_full, length_charges}
use Rattle.pf_select.proofs.NetCuts.{length_selection}
use Rattle.pf_select.proofs.CarriedBack.{carried_certifies}
use Rattle.pf_model.proofs.Facts.{item_more, more_full}

-- the parts outside a cut
pub outside_more : (cut : List Bool) (i : ℕ) (old new : List Bool) (x : Bool) → i + 1 < length cut → old ≡ map not (take i (drop 1 cut)) →
    new ≡ old ++ x ∷ [] → x ≡ not (get_or cut (i + 1) false) → new ≡ map not (take (i + 1) (drop 1 cut))
outside_more cut i old new x low before step here =
    let full = length-drop 1 cut in
    let one : 1 + i ≡ i + 1 = omega arith in
    let there : get_or (drop 1 cut) i false ≡ get_or cut (i + 1) false = get_or-drop 1 cut i false ∙ ap (λ n. get_or cut n false) one in
    step ∙ ap (λ l. l ++ x ∷ []) before ∙ ap (λ b. map not (take i (drop 1 cut)) ++ b ∷ []) (here ∙ ap not (sym there))
    ∙ sym (map_more not (drop 1 cut) i false (omega (arith, full, low)))

pub price_more : (p : SelectionProblem) (points shown old new : List Fraction) (j : ℕ) (x : Fraction) → ArePrices p points old j → shown ≡ points →
    j + 1 < length shown → x ≡ get_or shown (j + 1) x → new ≡ old ++ x ∷ [] → ArePrices p points new (j + 1)
price_more p points shown old new j x a same low is step =
    let here : x ≡ point_at (select_net p) points (suc j) =
    is ∙ get_or_default shown (j + 1) x (select_net p).low low ∙ ap (λ (l : List Fraction). point_at (select_net p) l (j + 1)) same
    ∙ ap (point_at (select_net p) points) (add-one j) in
    record {
      full = more_full old new x j a.full step;
      each = item_more old new x zero_price j (λ k. point_at (select_net p) points (suc k)) a.full step a.each here;
    }

pub selection_more : (p : SelectionProblem) (cuts old new : List (List Bool)) (j : ℕ) (set cut : List Bool) → AreSelections p cuts old j →
    cut ≡ cut_at cuts j → set ≡ selection_of p cut → new ≡ old ++ set ∷ [] → AreSelections p cuts new (j + 1)
selection_more p cuts old new j set cut a same e step = record {
  full = more_full old new set j a.full step;
  each = item_more old new set [] j (λ k. selection_of p (cut_at cuts k)) a.full step a.each (e ∙ ap (selection_of p) same);
}

pub slice_is_charges : (p : SelectionProblem) (flow : List ℤ) (parts needs : ℕ) → parts ≡ length p.costs → needs ≡ length p.needs →
    slice_range flow parts (parts + needs) ≡ charges_of p flow
slice_is_charges p flow parts needs e f =
    let n : (parts + needs) - parts ≡ needs = omega arith in
    ap (λ k. take k (drop parts flow)) n ∙ ap (λ k. take k (drop parts flow)) f ∙ ap (λ k. take (length p.needs) (drop k flow)) e

pub charges_more : (p : SelectionProblem) (flows old new : List (List ℤ)) (j : ℕ) (row flow : List ℤ) → AreCarried p flows old j →
    flow ≡ flow_at flows (j + 1) → row ≡ charges_of p flow → new ≡ old ++ row ∷ [] → AreCarried p flows new (j + 1)
charges_more p flows old new j row flow a same e step = record {
  full = more_full old new row j a.full step;
  each = item_more old new row [] j (λ k. charges_of p (flow_at flows (suc k))) a.full step a.each
      (e ∙ ap (charges_of p) (same ∙ ap (flow_at flows) (add-one j)));
}

pub flows_wide : (p : SelectionProblem) (net : Network) (curve : Curve) → net ≡ select_net p → IsCurveShape net curve → AreAllWide p curve.flows
flows_wide p net curve same s = record {
  each = λ j low.
      let P : Network → Type 0 = λ n. All (IsFlowShape n) curve.flows in
      (All-get_or (IsFlowShape (select_net p)) curve.flows j [] low (subst P same s.flows)).full ∙ arcs_full p;
}

-- the whole
back_is : (p : SelectionProblem) (curve : Curve) (answer : ScheduleAnswer) (count : ℕ) → suc count ≡ length curve.cuts →
    ArePrices p curve.points answer.prices count → AreSelections p curve.cuts answer.selections (length curve.cuts) →
    AreCarried p curve.flows answer.charges count → IsCarriedBack p curve answer
back_is p curve answer count many a s r =
    let e = a.full in
    let P : ℕ → Type 0 = λ n. ArePrices p curve.points answer.prices n in
    let Q : ℕ → Type 0 = λ n. AreCarried p curve.flows answer.charges n in
    record { prices = subst P (sym e) a; count = ap suc e ∙ many; selections = s; charges = subst Q (sym e) r }

carried_shape : (p : SelectionProblem) (curve : Curve) (answer : ScheduleAnswer) → IsCurveShape (select_net p) curve → IsCarriedBack p curve answer →
    IsScheduleShape p answer
carried_shape p curve answer s back =
    let count = back.count in
    let many = back.selections.full in
    let points_count = s.count in
    let flows_count = s.flow_count in
    record {
      prices = λ k d low.
          subst IsFractionShape (sym (get_or_default answer.prices k d zero_price low ∙ back.prices.each k low))
          (All-get_or IsFractionShape curve.points (suc k) (select_net p).low (omega (arith, count, points_count, low)) s.points);
      count = omega (arith, count, many);
      selections = λ k d low.
          let P : List Bool → Type 0 = λ set. length set ≡ length p.costs in
          let there : k < length curve.cuts = omega (arith, low, many) in
          subst P (sym (get_or_default answer.selections k d [] low ∙ back.selections.each k there))
          (length_selection p (cut_at curve.cuts k) (All-get_or (IsNetworkCut (select_net p)) curve.cuts k [] there s.cuts).full);
      charges_count = back.charges.full;
      charges = λ k d low.
          let full = back.charges.full in
          let less : k < length answer.prices = omega (arith, low, full) in
          let flow = flow_at curve.flows (suc k) in
          let shape = All-get_or (IsFlowShape (select_net p)) curve.flows (suc k) [] (omega (arith, count, points_count, flows_count, less)) s.flows in
          let wide = length_charges p flow (shape.full ∙ arcs_full p) in
          subst (IsChargesShape p) (sym (get_or_default answer.charges k d [] low ∙ back.charges.each k less))
          (record {
            full = wide;
            each = λ i e inner.
                let within : i < length p.needs = omega (arith, wide, inner) in
                let all = shape.full ∙ arcs_full p in
                subst (IsWithinSize (2 ^ 104)) (sym (get_or-take (length p.needs) (drop (length p.costs) flow) i e within ∙ get_or-drop (length p.costs) flow i e))
                (All-get_or (IsWithinSize (2 ^ 104)) flow (length p.costs + i) e (omega (arith, all, within)) shape.each);
          });
    }

pub record IsSolved (p : SelectionProblem) (answer : ScheduleAnswer) : Type 0 where
  pub best : IsBestSchedule p answer.prices answer.selections
  pub certificate : CertifiesSchedule p answer.prices answer.selections answer.charges
  pub shape : IsScheduleShape p answer

pub solved : (p : SelectionProblem) (net : Network) (curve : Curve) (answer : ScheduleAnswer) (count : ℕ) → IsBoundedProblem p → net ≡ select_net p →
    IsCurve net curve.points curve.cuts → CertifiesCurve net curve.points curve.cuts curve.flows → IsCurveShape net curve → suc count ≡ length curve.cuts →
    ArePrices p curve.points answer.prices count → AreSelections p curve.cuts answer.selections (length curve.cuts) →
    AreCarried p curve.flows answer.charges count → IsSolved p answer
solved p net curve answer count b same v c s many a sets r =
    let P : Network → Type 0 = λ n. IsCurve n curve.points curve.cuts in
    let Q : Network → Type 0 = λ n. CertifiesCurve n curve.points curve.cuts curve.flows in
    let R : Network → Type 0 = λ n. IsCurveShape n curve in
    let back = back_is p curve answer count many a sets r in
    let certificate = carried_certifies p curve answer b (subst P same v) (subst Q same c) back in
    record {
      best = certificate_proves p answer.prices answer.selections answer.charges b.problem certificate;
      certificate = certificate;
      shape = carried_shape p curve answer (subst R same s) back;
    }
