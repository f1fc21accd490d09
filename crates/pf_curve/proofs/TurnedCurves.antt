-- The curve of the mirror, turned round, is that of the network.
use Rattle.std.proofs.Common.{◌≡◌, suc, ◌-◌, ◌<◌, List, [], ◌∷◌, length, get_or, map, Bool, refl, arith, ap, sym, ◌∙◌, subst}
use Rattle.std.specs.Prelude.{ℤ, All, reverse}
use Rattle.std.proofs.lemmas.Int.{ints}
use Rattle.std.proofs.lemmas.List.{length-map, length-reverse, get_or-reverse}
use Rattle.std.proofs.lemmas.List.Elements.{All-nil, All-cons}
use Rattle.pf_model.specs.Fraction.{Fraction}
use Rattle.pf_model.specs.Network.{Network, IsMonotone, IsNetworkCut}
use Rattle.pf_model.specs.Curve.{IsCurve, CertifiesCurve}
use Rattle.pf_model.specs.Mirror.{negative, mirror_arc, mirror, turned_points}
use Rattle.pf_model.specs.Answer.{Curve, IsFractionShape, IsFlowShape, IsCurveShape}
use Rattle.pf_model.proofs.Turned.{curve_back, certificate_back}
use Rattle.pf_net.proofs.MirrorLemmas.{lowest_turned}
use Rattle.pf_curve.specs.CutFunction.{CutFunction}
use Rattle.pf_curve.specs.Flows.{AreGreatest}
use Rattle.pf_curve.proofs.Envelopes.{shape_of_curve}
use Rattle.pf_curve.proofs.Certifying.{certificate_from_curve}

-- what holds of each item holds of each in the other order
all_reversed : {X : Type 0} (P : X → Type 0) (xs : List X) → All P xs → All P (reverse xs)
all_reversed P xs all = λ i d low.
    let here : i < length xs = omega (arith, low, length-reverse xs) in
    subst P (sym (get_or-reverse xs i d here)) (all (length xs - 1 - i) d (omega (arith, here)))

all_mapped : {X Y : Type 0} (P : X → Type 0) (Q : Y → Type 0) (f : X → Y) (xs : List X) → ((x : X) → P x → Q (f x)) → All P xs → All Q (map f xs)
all_mapped P Q f [] h all = All-nil Q
all_mapped P Q f (x ∷ xs) h all =
    All-cons Q (f x) (map f xs) (h x (all 0 x (omega arith))) (all_mapped P Q f xs h (λ i d low. all (suc i) d (omega arith)))

all_each : {X : Type 0} (P Q : X → Type 0) (xs : List X) → ((x : X) → P x → Q x) → All P xs → All Q xs
all_each P Q xs h all = λ i d low. h (get_or xs i d) (all i d low)

shape_negated : (x : Fraction) → IsFractionShape x → IsFractionShape (negative x)
shape_negated x s =
    let low = s.bounds.p_low in
    let high = s.bounds.p_high in
    record {
      bounds = record { p_low = omega (arith, ints, low, high); p_high = omega (arith, ints, low, high); parameter = s.bounds.parameter; q_high = s.bounds.q_high };
      lowest = lowest_turned x s.lowest;
    }

points_shape : (points : List Fraction) → All IsFractionShape points → All IsFractionShape (turned_points points)
points_shape points all = all_reversed IsFractionShape (map negative points) (all_mapped IsFractionShape IsFractionShape negative points shape_negated all)

cut_back : (net : Network) (side : List Bool) → IsNetworkCut (mirror net) side → IsNetworkCut net side
cut_back net side c = record { full = c.full; with_source = c.with_source; without_sink = c.without_sink }

flow_back : (net : Network) (flow : List ℤ) → IsFlowShape (mirror net) flow → IsFlowShape net flow
flow_back net flow s = record { full = s.full ∙ length-map net.arcs mirror_arc; each = s.each }

shape_back : (net : Network) (points : List Fraction) (cuts : List (List Bool)) (flows : List (List ℤ)) →
    IsCurveShape (mirror net) (record { points = points; cuts = cuts; flows = flows }) →
    IsCurveShape net (record { points = turned_points points; cuts = reverse cuts; flows = reverse flows })
shape_back net points cuts flows s =
    let some = s.some in
    let count = s.count in
    let flow_count = s.flow_count in
    let long = length-reverse cuts in
    let many = length-reverse flows in
    let wide : length (turned_points points) ≡ length points = length-reverse (map negative points) ∙ length-map points negative in
    record {
      some = omega (arith, some, long);
      count = omega (arith, count, wide, long);
      flow_count = omega (arith, flow_count, wide, many);
      points = points_shape points s.points;
      cuts = all_reversed (IsNetworkCut net) cuts (all_each (IsNetworkCut (mirror net)) (IsNetworkCut net) cuts (cut_back net) s.cuts);
      flows = all_reversed (IsFlowShape net) flows (all_each (IsFlowShape (mirror net)) (IsFlowShape net) flows (flow_back net) s.flows);
    }

-- the same, as the code calls it: what was found is of the network `other`, which is the mirror
pub cuts_back : (net other : Network) (found made : CutFunction) → other ≡ mirror net → IsCurve other found.points found.cuts →
    made ≡ record { points = turned_points found.points; cuts = reverse found.cuts } → IsCurve net made.points made.cuts
cuts_back net other found made e h is =
    let P : Network → Type 0 = λ n. IsCurve n found.points found.cuts in
    rw is (curve_back net found.points found.cuts (subst P e h))

pub cuts_shape_back : (found made : CutFunction) → All IsFractionShape found.points →
    made ≡ record { points = turned_points found.points; cuts = reverse found.cuts } → All IsFractionShape made.points
cuts_shape_back found made h is = rw is (points_shape found.points h)

-- what is made of them
pub made_turned : (found seen : CutFunction) (rows back : List (List ℤ)) (made : Curve) → seen ≡ record { points = turned_points found.points; cuts = reverse found.cuts } →
    back ≡ reverse rows → made ≡ record { points = seen.points; cuts = seen.cuts; flows = back } →
    made ≡ record { points = turned_points found.points; cuts = reverse found.cuts; flows = reverse rows }
made_turned found seen rows back made is_seen is_back is = is ∙ rw (is_seen, is_back) refl

pub rows_turned : (found seen : CutFunction) (rows back : List (List ℤ)) → seen ≡ record { points = turned_points found.points; cuts = reverse found.cuts } →
    back ≡ reverse rows → length rows ≡ length found.points → length back ≡ length seen.points
rows_turned found seen rows back is_seen is_back count =
    let wide : length (turned_points found.points) ≡ length found.points = length-reverse (map negative found.points) ∙ length-map found.points negative in
    let e : length seen.points ≡ length (turned_points found.points) = ap (λ (s : CutFunction). length s.points) is_seen in
    ap length is_back ∙ length-reverse rows ∙ count ∙ sym (e ∙ wide)

pub whole_back : (net other : Network) (found : CutFunction) (rows : List (List ℤ)) (made : Curve) → other ≡ mirror net → IsCurve other found.points found.cuts →
    made ≡ record { points = turned_points found.points; cuts = reverse found.cuts; flows = reverse rows } → IsCurve net made.points made.cuts
whole_back net other found rows made e h is =
    let P : Network → Type 0 = λ n. IsCurve n found.points found.cuts in
    rw is (curve_back net found.points found.cuts (subst P e h))

pub certified_back : (net other : Network) (found : CutFunction) (rows : List (List ℤ)) (made : Curve) → other ≡ mirror net → IsMonotone other →
    IsCurve other found.points found.cuts → AreGreatest other found.points rows →
    made ≡ record { points = turned_points found.points; cuts = reverse found.cuts; flows = reverse rows } → CertifiesCurve net made.points made.cuts made.flows
certified_back net other found rows made e m h best is =
    let P : Network → Type 0 = λ n. CertifiesCurve n found.points found.cuts rows in
    let here = certificate_from_curve other found.points found.cuts rows m h best.count (λ j low. best.each j (omega (arith, low, best.count))) in
    rw is (certificate_back net found.points found.cuts rows (subst P e here))

pub whole_shape_back : (net other : Network) (found : CutFunction) (rows : List (List ℤ)) (made : Curve) → other ≡ mirror net →
    IsCurve other found.points found.cuts → All IsFractionShape found.points → AreGreatest other found.points rows →
    made ≡ record { points = turned_points found.points; cuts = reverse found.cuts; flows = reverse rows } → IsCurveShape net made
whole_shape_back net other found rows made e h shape best is =
    let P : Network → Type 0 = λ n. IsCurveShape n (record { points = found.points; cuts = found.cuts; flows = rows }) in
    rw is (shape_back net found.points found.cuts rows (subst P e (shape_of_curve other found.points found.cuts rows h shape best)))
