-- A curve's text and its parts: the lines of points and cuts say the values of the flows.
use Rattle.std.proofs.Common.{◌≡◌, ℕ, suc, eqb, ◌+◌, ◌*◌, ◌≤◌, ◌^◌, List, [], ◌∷◌, ◌++◌, length, map, Bool, true, false, cond, refl, sym, ap, ◌∙◌, append_assoc, arith}
use Rattle.std.specs.Prelude.{ℤ, ◌+ℤ◌, ◌-ℤ◌, ◌≤ℤ◌, pos, codes}
use Rattle.std.specs.Fmt.{decimal}
use Rattle.std.specs.List.{AllByRecursion}
use Rattle.std.proofs.lemmas.Int.{ints}
use Rattle.std.proofs.lemmas.List.{length-map}
use Rattle.std.proofs.lemmas.List.Elements.{recursion_from_All, All-map, All-weaker}
use Rattle.pf_model.specs.Fraction.{Fraction}
use Rattle.pf_model.specs.Cut.{sum_where}
use Rattle.pf_model.specs.Network.{Network, ends_of}
use Rattle.pf_model.specs.Answer.{Curve, IsWithinSize, IsFlowShape, IsCurveShape}
use Rattle.pf_text.specs.Spelling.{line}
use Rattle.pf_par.specs.Answers.{value_of, cut_fields, point_fields, segments_text, points_text, flows_text, curve_text}
use Rattle.pf_par.specs.Outline.{segments_outline, points_outline, values_of}
use Rattle.pf_par.specs.CurveParts.{IsPartsShape, parts_text}
use Rattle.pf_par.specs.declared.outline.Outline.{Outline}
use Rattle.pf_par.specs.declared.reading_curve.Parts.{Parts}

-- ---- the text

segments_same : (net : Network) (i : ℕ) (sides : List (List Bool)) (points : List Fraction) (flows : List (List ℤ))
    → segments_text net i sides points flows ≡ segments_outline net i sides points (values_of net flows)
segments_same net i [] points flows = refl
segments_same net i (side ∷ sides) [] flows = refl
segments_same net i (side ∷ sides) (at ∷ points) [] = refl
segments_same net i (side ∷ sides) (at ∷ points) (flow ∷ flows) =
    ap (λ (t : List ℕ). line (codes "s" ∷ decimal i ∷ cut_fields net side) ++ line (codes "b" ∷ decimal i ∷ point_fields net at flow) ++ t) (segments_same net (i + 1) sides points flows)

points_same : (net : Network) (sides : List (List Bool)) (points : List Fraction) (flows : List (List ℤ)) → points_text net sides points flows ≡ points_outline net sides points (values_of net flows)
points_same net sides [] flows = refl
points_same net sides (at ∷ points) [] = refl
points_same net sides (at ∷ points) (flow ∷ flows) = ap (λ (t : List ℕ). line (codes "b" ∷ decimal 0 ∷ point_fields net at flow) ++ t) (segments_same net 1 sides points flows)

abbrev outline_from : List Fraction → List (List Bool) → List ℤ → Outline
outline_from points cuts values = record { points = points; cuts = cuts; values = values }

abbrev parts_from : Outline → List (List ℤ) → Parts
parts_from outline flows = record { outline = outline; flows = flows }

-- the parts of a curve's text
abbrev pub parts_of : Network → Curve → Parts
parts_of net c = parts_from (outline_from c.points c.cuts (values_of net c.flows)) c.flows

pub curve_text_parts : (net : Network) (c : Curve) → curve_text net c ≡ parts_text net (parts_of net c)
unfolding curve_text
curve_text_parts net c =
    let first = codes "o curve\n" in
    let count = line (codes "k" ∷ decimal (length c.cuts) ∷ []) in
    ap (λ (t : List ℕ). t ++ flows_text 0 c.flows ++ codes "end\n")
    (append_assoc first count (points_text net c.cuts c.points c.flows) ∙ ap (λ (t : List ℕ). first ++ (count ++ t)) (points_same net c.cuts c.points c.flows))

-- ---- sizes

size_step : (p : Bool) (x a : ℤ) (n : ℕ) → IsWithinSize (2 ^ 104) x → (pos 0 -ℤ pos (n * 20282409603651670423947251286015)) ≤ℤ a → a ≤ℤ pos (n * 20282409603651670423947251286015)
    → ((pos 0 -ℤ pos (suc n * 20282409603651670423947251286015)) ≤ℤ (cond p x (pos 0) +ℤ a)) × ((cond p x (pos 0) +ℤ a) ≤ℤ pos (suc n * 20282409603651670423947251286015))
size_step true x a n size low high = let l = size.low in let h = size.high in (omega (arith, ints), omega (arith, ints))
size_step false x a n size low high = (omega (arith, ints), omega (arith, ints))

sum_size : (test : ℕ × ℕ → Bool) (ends : List (ℕ × ℕ)) (flow : List ℤ) → AllByRecursion (IsWithinSize (2 ^ 104)) flow
    → ((pos 0 -ℤ pos (length ends * 20282409603651670423947251286015)) ≤ℤ sum_where test ends flow) × (sum_where test ends flow ≤ℤ pos (length ends * 20282409603651670423947251286015))
sum_size test [] flow sizes = (omega (arith, ints), omega (arith, ints))
sum_size test (arc ∷ ends) [] sizes = (omega (arith, ints), omega (arith, ints))
sum_size test (arc ∷ ends) (x ∷ flow) sizes =
    let back = sum_size test ends flow sizes.1 in
    size_step (test arc) x (sum_where test ends flow) (length ends) sizes.0 back.0 back.1

value_size : (net : Network) (flow : List ℤ) → length net.arcs ≤ 32768 → IsFlowShape net flow → IsWithinSize (2 ^ 120) (value_of net flow)
value_size net flow few shape =
    let sizes = recursion_from_All (IsWithinSize (2 ^ 104)) flow shape.each in
    let out = sum_size (λ arc. eqb arc.0 net.source) (map ends_of net.arcs) flow sizes in
    let into = sum_size (λ arc. eqb arc.1 net.source) (map ends_of net.arcs) flow sizes in
    let count = length-map net.arcs ends_of in
    record { low = omega (arith, ints, out.0, out.1, into.0, into.1, count, few); high = omega (arith, ints, out.0, out.1, into.0, into.1, count, few) }

-- ---- shapes

-- the parts of a curve of the right shape
pub parts_shape : (net : Network) (c : Curve) → length net.arcs ≤ 32768 → IsCurveShape net c → IsPartsShape net (parts_of net c)
parts_shape net c few shape = record {
  outline = record {
    some = shape.some;
    count = shape.count;
    value_count = length-map c.flows (value_of net) ∙ shape.flow_count;
    points = shape.points;
    cuts = shape.cuts;
    values = All-map (IsWithinSize (2 ^ 120)) (value_of net) c.flows
        (All-weaker (IsFlowShape net) (λ (flow : List ℤ). IsWithinSize (2 ^ 120) (value_of net flow)) (λ flow s. value_size net flow few s) c.flows shape.flows);
  };
  count = shape.flow_count;
  flows = shape.flows;
}

abbrev curve_from : List Fraction → List (List Bool) → List (List ℤ) → Curve
curve_from points cuts flows = record { points = points; cuts = cuts; flows = flows }

-- the curve that the parts say
abbrev pub curve_of_parts : Parts → Curve
curve_of_parts parts = curve_from parts.outline.points parts.outline.cuts parts.flows

outline_same : (points : List Fraction) (cuts : List (List Bool)) (values values' : List ℤ) → values ≡ values' → outline_from points cuts values ≡ outline_from points cuts values'
outline_same points cuts values values' e = cc

-- parts whose values are those of the flows are the parts of their curve
pub parts_of_curve : (net : Network) (parts : Parts) → values_of net parts.flows ≡ parts.outline.values → parts_text net parts ≡ curve_text net (curve_of_parts parts)
parts_of_curve net parts e =
    ap (λ (outline : Outline). parts_text net (parts_from outline parts.flows)) (outline_same parts.outline.points parts.outline.cuts parts.outline.values (values_of net parts.flows) (sym e))
    ∙ sym (curve_text_parts net (curve_of_parts parts))

-- ---- what a text of a curve says of its parts

pub values_are : (net : Network) (parts : Parts) (c : Curve) → parts ≡ parts_of net c → values_of net parts.flows ≡ parts.outline.values
values_are net parts c e = ap (λ (p : Parts). values_of net p.flows) e ∙ sym (ap (λ (p : Parts). p.outline.values) e)
