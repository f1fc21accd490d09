-- A curve of the network, read as a schedule, is certified.
use Rattle.std.proofs.Common.{◌≡◌, ◌≢◌, ℕ, zero, suc, ◌-◌, ◌<◌, List, [], ◌∷◌, length, get_or, refl, Bool, true, false, not, arith, ap, sym, ◌∙◌, inl, inr, add-one}
use Rattle.std.specs.Prelude.{ℤ, ◌+ℤ◌, ◌-ℤ◌, ◌*ℤ◌, ◌≤ℤ◌, ◌<ℤ◌, pos, ◌⊎◌, ◌==◌}
use Rattle.std.proofs.lemmas.Int.{ints, by_lt_z}
use Rattle.std.proofs.lemmas.Bool.{cases_Bool, cases_lt, cases_eq, both_ways}
use Rattle.std.proofs.lemmas.Bool.Decides.{nat_tests}
use Rattle.pf_model.specs.Fraction.{Fraction, IsParameter, IsBelow}
use Rattle.pf_model.specs.Answer.{Curve}
use Rattle.pf_model.specs.Cut.{has, at_arc, IsCut, IsContained, capacity}
use Rattle.pf_model.specs.Flow.{IsFlow, value}
use Rattle.pf_model.specs.Residual.{IsReach}
use Rattle.pf_model.specs.Network.{IsNetworkCut, network_at}
use Rattle.pf_model.specs.Curve.{IsCurve, CertifiesCurve, point_at, cut_at, flow_at}
use Rattle.pf_model.proofs.Integers.{mul_most, mul_nonneg, mul_comm, add_mul}
use Rattle.pf_model.proofs.Balance.{inside}
use Rattle.pf_model.proofs.Affine.{proper_at}
use Rattle.pf_model.proofs.Duality.{reach_is_tight}
use Rattle.pf_model.proofs.Unique.{same_sides}
use Rattle.pf_model.proofs.Certificate.{at_most_reflexive, point_is_parameter, point_inside}
use Rattle.pf_select.specs.Problem.{SelectionProblem, IsSelectionProblem, IsBoundedProblem, sum_of, cost_of, gain_of, worth, product_at, part_at, zero_price, price_at, selection_at, IsProperPart}
use Rattle.pf_select.specs.Certificate.{ScheduleAnswer, CertifiesPrice, IsNeeded, CertifiesSchedule}
use Rattle.pf_select.specs.Reduction.{product_node, sink_node, whole_gain, select_net, selection_of, charges_of}
use Rattle.pf_select.specs.Carried.{IsCarriedBack}
use Rattle.pf_select.proofs.Grouping.{sum_none, sum_same}
use Rattle.pf_select.proofs.Worths.{lost}
use Rattle.pf_select.proofs.Soundness.{sum_some, gain_most}
use Rattle.pf_select.proofs.NetBuilt.{net_built}
use Rattle.pf_select.proofs.NetFlows.{none_at}
use Rattle.pf_select.proofs.NetSides.{IsShut, shut_from_tight, side_with, side_part, side_product, side_sink, side_full, cheap_reached, price_certified}
use Rattle.pf_select.proofs.NetCuts.{length_selection, has_selection, products_lost, needs_uncrossed, capacity_of_side, capacity_is_short}
use Rattle.pf_model.proofs.Facts.{not_false, not_true}

-- some product needs the part, or none does
find_need : (needs : List (ℕ × ℕ)) (i : ℕ) →
    ((k : ℕ) × (k < length needs × ((get_or needs k (0, 0)).1 ≡ i))) ⊎ ((k : ℕ) → k < length needs → (get_or needs k (0, 0)).1 ≢ i)
find_need [] i = inr (λ k low. absurd (omega (arith, low)))
find_need (need ∷ needs) i = elim (cases_eq need.1 i) [
  | inl same ↦ inl (0, (omega arith, same))
  | inr other ↦ elim (find_need needs i) [
    | inl found ↦ inl (suc found.0, (let low = found.1.0 in omega (arith, low), found.1.1))
    | inr none ↦ inr (later need needs i other none)
  ]
]
  where
    later : (need : ℕ × ℕ) (needs : List (ℕ × ℕ)) (i : ℕ) → need.1 ≢ i → ((k : ℕ) → k < length needs → (get_or needs k (0, 0)).1 ≢ i) →
        (k : ℕ) → k < length (need ∷ needs) → (get_or (need ∷ needs) k (0, 0)).1 ≢ i
    later need needs i other none zero low = other
    later need needs i other none (suc k) low = none k (omega (arith, low))

apart : (i k : ℕ) → i ≢ k → (i == k) ≡ false
apart i k h = grind (arith, nat_tests)

-- a node is the source, that of a part or of a product, or the sink
each_node : (p : SelectionProblem) (P : ℕ → Type 0) → P 0 → ((i : ℕ) → i < length p.costs → P (suc i)) → ((j : ℕ) → j < length p.gains → P (product_node p j)) →
    P (sink_node p) → (v : ℕ) → v < suc (sink_node p) → P v
each_node p P source parts products sink zero low = source
each_node p P source parts products sink (suc v) low = elim (cases_lt v (length p.costs)) [
  | inl less ↦ parts v less
  | inr most ↦ elim (cases_lt (v - length p.costs) (length p.gains)) [
    | inl less ↦ (let e : product_node p (v - length p.costs) ≡ suc v = omega (arith, most) in rw e at (products (v - length p.costs) less))
    | inr more ↦ (let e : sink_node p ≡ suc v = omega (arith, low, most, more) in rw e at sink)
  ]
]

-- the cuts of the source alone, and of all but the sink
source_cut : (p : SelectionProblem) (x : Fraction) (parts products : ℕ → Bool) → IsCut (network_at (select_net p) x) (side_with p parts products)
source_cut p x parts products = record { full = side_full p parts products; with_source = refl; without_sink = side_sink p parts products }

sum_nothing : (xs : List ℤ) → sum_of (λ i. false) xs ≡ pos 0
sum_nothing xs = sum_none (λ i. false) xs (λ i low. refl)

source_capacity : (p : SelectionProblem) (x : Fraction) → IsSelectionProblem p → x.p ≡ pos 0 →
    capacity (network_at (select_net p) x) (side_with p (λ i. false) (λ j. false)) ≡ pos 0
source_capacity p x problem zero_p =
    let side = side_with p (λ i. false) (λ j. false) in
    let e = capacity_of_side p x side refl (side_sink p (λ i. false) (λ j. false))
    (λ k low h. absurd (both_ways _ (side_part p (λ i. false) (λ j. false) (part_at p k) (problem.part k low)) h)) in
    let f = sum_same (λ j. has side (product_node p j)) (λ j. false) p.gains (λ j low. side_product p (λ i. false) (λ j. false) j low) ∙ sum_nothing p.gains in
    let g = ap (λ n. x.q *ℤ n) f in
    let none : x.q *ℤ pos 0 ≡ pos 0 = omega (arith, ints) in
    let first : x.p *ℤ sum_of (λ i. not (has side (suc i))) p.costs ≡ pos 0 *ℤ sum_of (λ i. not (has side (suc i))) p.costs =
    ap (λ n. n *ℤ sum_of (λ i. not (has side (suc i))) p.costs) zero_p in
    let nothing : pos 0 *ℤ sum_of (λ i. not (has side (suc i))) p.costs ≡ pos 0 = omega (arith, ints) in
    omega (arith, ints, e, g, none, first, nothing)

whole_capacity : (p : SelectionProblem) (x : Fraction) → IsSelectionProblem p →
    capacity (network_at (select_net p) x) (side_with p (λ i. true) (λ j. true)) ≡ x.q *ℤ whole_gain p
whole_capacity p x problem =
    let side = side_with p (λ i. true) (λ j. true) in
    let e = capacity_of_side p x side refl (side_sink p (λ i. true) (λ j. true))
    (λ k low h. side_product p (λ i. true) (λ j. true) (product_at p k) (problem.product k low)) in
    let f = sum_same (λ j. has side (product_node p j)) (λ j. true) p.gains (λ j low. side_product p (λ i. true) (λ j. true) j low) in
    let g = sum_none (λ i. not (has side (suc i))) p.costs (λ i low. ap not (side_part p (λ i. true) (λ j. true) i low)) in
    let a = ap (λ n. x.q *ℤ n) f in
    let b = ap (λ n. x.p *ℤ n) g in
    let none : x.p *ℤ pos 0 ≡ pos 0 = omega (arith, ints) in
    omega (arith, ints, e, a, b, none)

-- what holds of one cut of the curve, at the point after it
record IsCutHere (p : SelectionProblem) (x : Fraction) (flow : List ℤ) (side : List Bool) : Type 0 where
  pub parameter : IsParameter x
  pub flow_is : IsFlow (network_at (select_net p) x) flow
  pub reach : IsReach (network_at (select_net p) x) flow side
  pub cut : IsNetworkCut (select_net p) side
  pub shut : IsShut p x flow side

cut_here : (p : SelectionProblem) (points : List Fraction) (cuts : List (List Bool)) (flows : List (List ℤ)) → IsBoundedProblem p →
    CertifiesCurve (select_net p) points cuts flows → (i : ℕ) → i < length cuts →
    IsCutHere p (point_at (select_net p) points (suc i)) (flow_at flows (suc i)) (cut_at cuts i)
cut_here p points cuts flows b c i low =
    let net = select_net p in
    let m = (net_built p b).monotone in
    let x = point_at net points (suc i) in
    let count = c.division.count in
    let f = c.flow_is (suc i) (omega (arith, count, low)) in
    let r : IsReach (network_at net x) (flow_at flows (suc i)) (cut_at cuts i) = rw add-one at (c.reach i low) in
    let cut = c.cut i low in
    let within = point_inside net points cuts m c.division (suc i) (omega (arith, low)) in
    record {
      parameter = point_is_parameter net points cuts c.division (suc i) (omega (arith, low));
      flow_is = f;
      reach = r;
      cut = cut;
      shut = shut_from_tight p x (flow_at flows (suc i)) (cut_at cuts i) cut.with_source cut.without_sink
          (reach_is_tight (network_at net x) (flow_at flows (suc i)) (cut_at cuts i) (proper_at net x m within) r);
    }

rises_above : (x y : Fraction) → pos 0 ≤ℤ x.p → IsParameter x → IsParameter y → IsBelow x y → pos 0 <ℤ y.p
rises_above x y low px py h =
    by_lt_z (pos 0) y.p (λ more. more)
    (λ none. absurd (
    let a = mul_most x.q y.p (pos 0) (omega (arith, ints, px)) none in
    let b = mul_nonneg x.p y.q low (omega (arith, ints, py)) in
    let zero_is : x.q *ℤ pos 0 ≡ pos 0 = omega (arith, ints) in
    omega (arith, ints, a, b, zero_is, h, mul_comm x.q y.p)))

below_zero : (x : Fraction) → pos 0 <ℤ x.p → IsBelow zero_price x
below_zero x h =
    let none : pos 0 *ℤ x.q ≡ pos 0 = omega (arith, ints) in
    let one : x.p *ℤ pos 1 ≡ x.p = omega (arith, ints) in
    omega (arith, ints, none, one, h)

not_same : (a b : Bool) → not a ≡ not b → a ≡ b
not_same true true e = refl
not_same true false e = cc
not_same false true e = cc
not_same false false e = refl

module _ (p : SelectionProblem) (points : List Fraction) (cuts : List (List Bool)) (flows : List (List ℤ)) (b : IsBoundedProblem p)
    (v : IsCurve (select_net p) points cuts) (c : CertifiesCurve (select_net p) points cuts flows) where
  abbrev point : ℕ → Fraction
  point j = point_at (select_net p) points j

  abbrev chosen : ℕ → List Bool
  chosen j = selection_of p (cut_at cuts j)

  price_here : (i : ℕ) → i < length cuts → CertifiesPrice p (point (suc i)) (charges_of p (flow_at flows (suc i))) (chosen i)
  price_here i low =
      let h = cut_here p points cuts flows b c i low in
      price_certified p (point (suc i)) (flow_at flows (suc i)) (cut_at cuts i) b h.parameter h.flow_is h.reach h.cut h.shut (chosen i)
      (λ k less. has_selection p (cut_at cuts i) k h.cut.full less)

  lost_here : (i : ℕ) → i < length cuts → (j : ℕ) → j < length p.gains → has (cut_at cuts i) (product_node p j) ≡ lost p (chosen i) j
  lost_here i low =
      let h = cut_here p points cuts flows b c i low in
      products_lost p (point (suc i)) (flow_at flows (suc i)) (cut_at cuts i) b h.parameter h.flow_is h.reach h.cut h.shut

  uncrossed_here : (i : ℕ) → i < length cuts → (k : ℕ) → k < length p.needs → has (cut_at cuts i) (suc (part_at p k)) ≡ true →
      has (cut_at cuts i) (product_node p (product_at p k)) ≡ true
  uncrossed_here i low =
      let h = cut_here p points cuts flows b c i low in
      needs_uncrossed p (point (suc i)) (flow_at flows (suc i)) (cut_at cuts i) b h.parameter h.flow_is h.reach h.cut h.shut

  capacity_here : (i : ℕ) (x : Fraction) → i < length cuts →
      capacity (network_at (select_net p) x) (cut_at cuts i) ≡ (x.q *ℤ whole_gain p) -ℤ worth p x (chosen i)
  capacity_here i x low = capacity_is_short p x (cut_at cuts i) (c.cut i low) (uncrossed_here i low) (lost_here i low)

  equal_here : (i : ℕ) → suc i < length cuts → worth p (point (suc i)) (chosen i) ≡ worth p (point (suc i)) (chosen (suc i))
  equal_here i low =
      let before : value (network_at (select_net p) (point (suc i))) (flow_at flows (suc i)) ≡ capacity (network_at (select_net p) (point (suc i))) (cut_at cuts i) =
      rw add-one at (c.right i (omega (arith, low))) in
      let behind = c.left (suc i) low in
      omega (arith, ints, before, behind, capacity_here i (point (suc i)) (omega (arith, low)), capacity_here (suc i) (point (suc i)) low)

  -- the low end is 0, and the high end is above all gains
  starts_low : (point 0).p ≡ pos 0
  starts_low =
      let e = v.division.low in
      let none : pos 0 *ℤ (point 0).q ≡ pos 0 = omega (arith, ints) in
      let one : (point 0).p *ℤ pos 1 ≡ (point 0).p = omega (arith, ints) in
      omega (arith, ints, e, none, one)

  ends_high : (point (length cuts)).p ≡ ((whole_gain p +ℤ pos 1) *ℤ (point (length cuts)).q)
  ends_high =
      let e = v.division.high in
      let one : (point (length cuts)).p *ℤ pos 1 ≡ (point (length cuts)).p = omega (arith, ints) in
      omega (arith, ints, e, one)

  rises : (i : ℕ) → i < length cuts → IsBelow (point i) (point (suc i))
  rises i low = rw add-one at (v.division.rise i low)

  above_zero : (i : ℕ) → i < length cuts → pos 0 <ℤ (point (suc i)).p
  above_zero zero low = rises_above (point 0) (point 1) (omega (arith, ints, starts_low))
      (point_is_parameter (select_net p) points cuts v.division 0 (omega arith)) (point_is_parameter (select_net p) points cuts v.division 1 (omega (arith, low)))
      (rises 0 low)
  above_zero (suc i) low =
      let before = above_zero i (omega (arith, low)) in
      rises_above (point (suc i)) (point (suc (suc i))) (omega (arith, ints, before))
      (point_is_parameter (select_net p) points cuts v.division (suc i) (omega (arith, low)))
      (point_is_parameter (select_net p) points cuts v.division (suc (suc i)) (omega (arith, low))) (rises (suc i) low)

  -- the first selection is the set of the needed parts
  first_needed : 0 < length cuts → (i : ℕ) → i < length p.costs → has (chosen 0) i ≡ true → IsNeeded p i
  first_needed some i low h = elim (find_need p.needs i) [
    | inl found ↦ record { need = found.0; there = found.1.0; part = found.1.1 }
    | inr none ↦ absurd
        (let here = cut_here p points cuts flows b c 0 some in
        let x = point 1 in
        let nothing = none_at (λ need. need.1 == i) p.needs (charges_of p (flow_at flows 1)) (λ k less. apart _ i (none k less)) in
        let above = above_zero 0 some in
        let cost = b.problem.costly i low in
        let more = mul_most x.p (pos 1) (at_arc p.costs i) (omega (arith, ints, above)) cost in
        let one : x.p *ℤ pos 1 ≡ x.p = omega (arith, ints) in
        let reached = cheap_reached p x (flow_at flows 1) (cut_at cuts 0) b here.parameter here.flow_is here.reach here.cut here.shut i low
        (omega (arith, ints, nothing, more, one, above)) in
        both_ways _ (has_selection p (cut_at cuts 0) i here.cut.full low ∙ ap not reached) h)
  ]

  no_product : 0 < length cuts → (j : ℕ) → j < length p.gains → has (cut_at cuts 0) (product_node p j) ≡ true → ⊥
  no_product some j low h =
      let net = select_net p in
      let x = point 0 in
      let px = point_is_parameter net points cuts v.division 0 (omega arith) in
      let rise = rw add-one at (v.division.rise 0 some) in
      let least = v.least 0 some x px (at_most_reflexive x) (rw add-one (omega (arith, ints, rise))) in
      let most = least.least (side_with p (λ i. false) (λ j. false)) (source_cut p x (λ i. false) (λ j. false)) in
      let none = source_capacity p x b.problem starts_low in
      let cut = c.cut 0 some in
      let e = capacity_of_side p x (cut_at cuts 0) cut.with_source cut.without_sink (uncrossed_here 0 some) in
      let f = ap (λ n. n *ℤ sum_of (λ i. not (has (cut_at cuts 0) (suc i))) p.costs) starts_low in
      let nothing : pos 0 *ℤ sum_of (λ i. not (has (cut_at cuts 0) (suc i))) p.costs ≡ pos 0 = omega (arith, ints) in
      let some_gain = sum_some (λ j. has (cut_at cuts 0) (product_node p j)) p.gains j b.problem.gainful low h in
      let more = mul_most x.q (pos 1) (sum_of (λ j. has (cut_at cuts 0) (product_node p j)) p.gains) (omega (arith, ints, px)) some_gain in
      let one : x.q *ℤ pos 1 ≡ x.q = omega (arith, ints) in
      omega (arith, ints, most, none, e, f, nothing, more, one, px)

  needed_first : 0 < length cuts → (i : ℕ) → IsNeeded p i → has (chosen 0) i ≡ true
  needed_first some i n =
      let cut = c.cut 0 some in
      let low : i < length p.costs = let h = b.problem.part n.need n.there in omega (arith, h, n.part) in
      has_selection p (cut_at cuts 0) i cut.full low ∙ elim (cases_Bool (has (cut_at cuts 0) (suc i))) [
        | inl held ↦ absurd
            (no_product some (product_at p n.need) (b.problem.product n.need n.there)
            (uncrossed_here 0 some n.need n.there (ap (λ k. has (cut_at cuts 0) (suc k)) n.part ∙ held)))
        | inr off ↦ not_false _ off
      ]

  -- the last one is empty
  last_empty : (i : ℕ) → suc i ≡ length cuts → (k : ℕ) → k < length p.costs → has (chosen i) k ≡ false
  last_empty i last k low = elim (cases_Bool (has (chosen i) k)) [
    | inr off ↦ off
    | inl held ↦ absurd
        (let net = select_net p in
        let x = point (suc i) in
        let px = point_is_parameter net points cuts v.division (suc i) (omega (arith, last)) in
        let rise = rises i (omega (arith, last)) in
        let least = v.least i (omega (arith, last)) x px (omega (arith, ints, rise)) (rw add-one (at_most_reflexive x)) in
        let most = least.least (side_with p (λ i. true) (λ j. true)) (source_cut p x (λ i. true) (λ j. true)) in
        let whole = whole_capacity p x b.problem in
        let here = capacity_here i x (omega (arith, last)) in
        let top : x.p ≡ ((whole_gain p +ℤ pos 1) *ℤ x.q) = rw last ends_high in
        let spread = add_mul (whole_gain p) (pos 1) x.q in
        let turn = mul_comm (whole_gain p) x.q in
        let cost = sum_some (has (chosen i)) p.costs k b.problem.costly low held in
        let gain = mul_most x.q (gain_of p (chosen i)) (whole_gain p) (omega (arith, ints, px)) (gain_most p (chosen i) b.problem) in
        let above = above_zero i (omega (arith, last)) in
        let paid = mul_most x.p (pos 1) (cost_of p (chosen i)) (omega (arith, ints, above)) cost in
        let one : x.p *ℤ pos 1 ≡ x.p = omega (arith, ints) in
        omega (arith, ints, most, whole, here, top, spread, turn, gain, paid, one, px))
  ]

  -- and each is a proper part of the one before
  falls : (i : ℕ) → suc i < length cuts → IsProperPart (chosen (suc i)) (chosen i)
  falls i low =
      let net = select_net p in
      let cut = c.cut i (omega (arith, low)) in
      let cut' = c.cut (suc i) low in
      let nested : IsContained (cut_at cuts i) (cut_at cuts (suc i)) = rw add-one at (v.nested i (rw add-one low)) in
      let other : cut_at cuts i ≢ cut_at cuts (suc i) = rw add-one at (v.different i (rw add-one low)) in
      record {
        contained = λ k h.
            let full = length_selection p (cut_at cuts (suc i)) cut'.full in
            let inner = inside (chosen (suc i)) k h in
            let less : k < length p.costs = omega (arith, full, inner) in
            let out = not_true _ (sym (has_selection p (cut_at cuts (suc i)) k cut'.full less) ∙ h) in
            has_selection p (cut_at cuts i) k cut.full less ∙ elim (cases_Bool (has (cut_at cuts i) (suc k))) [
              | inl held ↦ absurd (both_ways _ out (nested (suc k) held))
              | inr off ↦ not_false _ off
            ];
        different = λ same.
            let part : (k : ℕ) → k < length p.costs → has (cut_at cuts (suc i)) (suc k) ≡ has (cut_at cuts i) (suc k) = λ k less.
            not_same _ _ (sym (has_selection p (cut_at cuts (suc i)) k cut'.full less) ∙ ap (λ l. has l k) same
            ∙ has_selection p (cut_at cuts i) k cut.full less) in
            let product : (j : ℕ) → j < length p.gains → has (cut_at cuts (suc i)) (product_node p j) ≡ has (cut_at cuts i) (product_node p j) = λ j less.
            lost_here (suc i) low j less ∙ ap (λ l. lost p l j) same ∙ sym (lost_here i (omega (arith, low)) j less) in
            let all : (w : ℕ) → w < suc (sink_node p) → has (cut_at cuts (suc i)) w ≡ has (cut_at cuts i) w =
            each_node p (λ w. has (cut_at cuts (suc i)) w ≡ has (cut_at cuts i) w) (cut'.with_source ∙ sym cut.with_source) part product
            (cut'.without_sink ∙ sym cut.without_sink) in
            other (same_sides (cut_at cuts i) (cut_at cuts (suc i)) (cut.full ∙ sym cut'.full) nested
            (λ w h. sym (all w (let full = cut'.full in let inner = inside (cut_at cuts (suc i)) w h in omega (arith, full, inner))) ∙ h));
      }

-- so what is read off certifies a schedule
module _ (p : SelectionProblem) (curve : Curve) (answer : ScheduleAnswer) (b : IsBoundedProblem p) (v : IsCurve (select_net p) curve.points curve.cuts)
    (c : CertifiesCurve (select_net p) curve.points curve.cuts curve.flows) (back : IsCarriedBack p curve answer) where
  selection_here : (j : ℕ) → j < length curve.cuts → selection_at answer.selections j ≡ selection_of p (cut_at curve.cuts j)
  selection_here j low = back.selections.each j low

  rise_here : (j : ℕ) → j < length answer.prices → IsBelow (price_at answer.prices j) (price_at answer.prices (suc j))
  rise_here zero low =
      let count = back.count in
      let above = above_zero p curve.points curve.cuts curve.flows b v c 0 (omega (arith, count, low)) in
      let x = point_at (select_net p) curve.points 1 in
      let here : IsBelow zero_price x = below_zero x above in
      rw (back.prices.each 0 low) here
  rise_here (suc j) low =
      let count = back.count in
      let r = rises p curve.points curve.cuts curve.flows b v c (suc j) (omega (arith, count, low)) in
      rw (back.prices.each j (omega (arith, low)), back.prices.each (suc j) low) r

  pub carried_certifies : CertifiesSchedule p answer.prices answer.selections answer.charges
  carried_certifies =
      let count = back.count in
      let many = back.selections.full in
      let points = curve.points in
      let cuts = curve.cuts in
      let flows = curve.flows in
      record {
        count = omega (arith, count, many);
        charges_count = back.charges.full;
        full = λ j low.
            ap length (selection_here j (omega (arith, count, low))) ∙ length_selection p (cut_at cuts j) (c.cut j (omega (arith, count, low))).full;
        parameters = λ j low. rw (back.prices.each j low)
            (point_is_parameter (select_net p) points cuts v.division (suc j) (omega (arith, count, low)));
        rise = rise_here;
        fall = λ j low. rw (selection_here j (omega (arith, count, low)), selection_here (suc j) (omega (arith, count, low)))
            (falls p points cuts flows b v c j (omega (arith, count, low)));
        first_needed = λ i low h. first_needed p points cuts flows b v c (omega (arith, count)) i low
            (sym (ap (λ l. has l i) (selection_here 0 (omega (arith, count)))) ∙ h);
        needed_first = λ i need. ap (λ l. has l i) (selection_here 0 (omega (arith, count))) ∙ needed_first p points cuts flows b v c (omega (arith, count)) i need;
        last_empty = λ i low. ap (λ l. has l i) (selection_here (length answer.prices) (omega (arith, count)))
            ∙ last_empty p points cuts flows b v c (length answer.prices) count i low;
        each = λ j low. rw (back.prices.each j low, back.charges.each j low, selection_here j (omega (arith, count, low)))
            (price_here p points cuts flows b v c j (omega (arith, count, low)));
        equal = λ j low. rw (back.prices.each j low, selection_here j (omega (arith, count, low)), selection_here (suc j) (omega (arith, count, low)))
            (equal_here p points cuts flows b v c j (omega (arith, count, low)));
      }
