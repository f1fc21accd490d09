-- Curves of the right shape with equal texts are equal.
use Rattle.std.proofs.Common.{◌≡◌, ℕ, ◌+◌, List, [], ◌∷◌, ◌++◌, length, get_or, drop, map, refl, sym, ap, ◌∙◌, append_assoc, arith}
use Rattle.std.specs.Prelude.{◌≢◌, ℤ, Bool, codes}
use Rattle.std.specs.List.{AllByRecursion}
use Rattle.std.specs.Fmt.{decimal, signed_decimal}
use Rattle.std.proofs.lemmas.List.{append-nil}
use Rattle.std.proofs.lemmas.List.Elements.{recursion_from_All}
use Rattle.pf_model.specs.Fraction.{Fraction}
use Rattle.pf_model.specs.Network.{Network, IsNetworkCut}
use Rattle.pf_model.specs.Answer.{Curve, IsFractionShape, IsFlowShape, IsCurveShape}
use Rattle.pf_text.specs.Spelling.{line}
use Rattle.pf_par.specs.Answers.{point_fields, cut_fields, segments_text, flows_text, curve_text}
use Rattle.pf_text.proofs.TextLines.{ArePlain, lines_text, lines_text-append, same_lines, decimal_plain, numbers_plain, same_side}
use Rattle.pf_text.proofs.SameParts.{same_fraction}
use Rattle.pf_par.proofs.SameAnswers.{same_flow, some_node, point_plain, cut_plain, field_at, mark, all_plain, end_plain}

-- a cut, the point after it, and the flow there
record Segment : Type 0 where
  pub side : List Bool
  pub at : Fraction
  pub flow : List ℤ

abbrev segments_of : List (List Bool) → List Fraction → List (List ℤ) → List Segment
segments_of (side ∷ sides) (at ∷ points) (flow ∷ flows) = record { side = side; at = at; flow = flow } ∷ segments_of sides points flows
segments_of sides points flows = []

abbrev segment_lines : Network → ℕ → List Segment → List (List (List ℕ))
segment_lines net i [] = []
segment_lines net i (s ∷ segments) =
    (codes "s" ∷ decimal i ∷ cut_fields net s.side) ∷ (codes "b" ∷ decimal i ∷ point_fields net s.at s.flow) ∷ segment_lines net (i + 1) segments

abbrev flow_lines : ℕ → List (List ℤ) → List (List (List ℕ))
flow_lines j [] = []
flow_lines j (flow ∷ flows) = (codes "f" ∷ decimal j ∷ map signed_decimal flow) ∷ flow_lines (j + 1) flows

segments_text_is : (net : Network) (i : ℕ) (sides : List (List Bool)) (points : List Fraction) (flows : List (List ℤ))
    → segments_text net i sides points flows ≡ lines_text (segment_lines net i (segments_of sides points flows))
segments_text_is net i [] points flows = refl
segments_text_is net i (side ∷ sides) [] flows = refl
segments_text_is net i (side ∷ sides) (at ∷ points) [] = refl
segments_text_is net i (side ∷ sides) (at ∷ points) (flow ∷ flows) =
    let a = line (codes "s" ∷ decimal i ∷ cut_fields net side) in
    let b = line (codes "b" ∷ decimal i ∷ point_fields net at flow) in
    append_assoc a b (segments_text net (i + 1) sides points flows) ∙ ap (λ (t : List ℕ). a ++ (b ++ t)) (segments_text_is net (i + 1) sides points flows)

flows_text_is : (j : ℕ) (flows : List (List ℤ)) → flows_text j flows ≡ lines_text (flow_lines j flows)
flows_text_is j [] = refl
flows_text_is j (flow ∷ flows) = ap (λ (t : List ℕ). line (codes "f" ∷ decimal j ∷ map signed_decimal flow) ++ t) (flows_text_is (j + 1) flows)

-- the lists of the parts
sides_are : (sides : List (List Bool)) (points : List Fraction) (flows : List (List ℤ)) → length points ≡ length sides → length flows ≡ length sides
    → map (λ s. s.side) (segments_of sides points flows) ≡ sides
sides_are [] points flows e f = refl
sides_are (side ∷ sides) [] flows e f = absurd (omega (arith, e))
sides_are (side ∷ sides) (at ∷ points) [] e f = absurd (omega (arith, f))
sides_are (side ∷ sides) (at ∷ points) (flow ∷ flows) e f = ap (λ (ss : List (List Bool)). side ∷ ss) (sides_are sides points flows (omega (arith, e)) (omega (arith, f)))

points_are : (sides : List (List Bool)) (points : List Fraction) (flows : List (List ℤ)) → length points ≡ length sides → length flows ≡ length sides
    → map (λ s. s.at) (segments_of sides points flows) ≡ points
points_are [] [] flows e f = refl
points_are [] (at ∷ points) flows e f = absurd (omega (arith, e))
points_are (side ∷ sides) [] flows e f = absurd (omega (arith, e))
points_are (side ∷ sides) (at ∷ points) [] e f = absurd (omega (arith, f))
points_are (side ∷ sides) (at ∷ points) (flow ∷ flows) e f = ap (λ (ps : List Fraction). at ∷ ps) (points_are sides points flows (omega (arith, e)) (omega (arith, f)))

record IsSegmentShape (net : Network) (s : Segment) : Type 0 where
  pub cut : IsNetworkCut net s.side
  pub point : IsFractionShape s.at

segments_shape : (net : Network) (sides : List (List Bool)) (points : List Fraction) (flows : List (List ℤ)) → AllByRecursion (IsNetworkCut net) sides → AllByRecursion IsFractionShape points
    → AllByRecursion (IsSegmentShape net) (segments_of sides points flows)
segments_shape net [] points flows cuts fractions = tt
segments_shape net (side ∷ sides) [] flows cuts fractions = tt
segments_shape net (side ∷ sides) (at ∷ points) [] cuts fractions = tt
segments_shape net (side ∷ sides) (at ∷ points) (flow ∷ flows) cuts fractions = (record { cut = cuts.0; point = fractions.0 }, segments_shape net sides points flows cuts.1 fractions.1)

segment_lines_plain : (net : Network) (i : ℕ) (segments : List Segment) → AllByRecursion (IsSegmentShape net) segments → AllByRecursion ArePlain (segment_lines net i segments)
segment_lines_plain net i [] shape = tt
segment_lines_plain net i (s ∷ segments) shape = (
  (record { some = omega arith; all = refl }, (decimal_plain i, cut_plain net s.side (some_node net s.side shape.0.cut))),
  ((record { some = omega arith; all = refl }, (decimal_plain i, point_plain net s.at s.flow)), segment_lines_plain net (i + 1) segments shape.1),
)

flow_lines_plain : (j : ℕ) (flows : List (List ℤ)) → AllByRecursion ArePlain (flow_lines j flows)
flow_lines_plain j [] = tt
flow_lines_plain j (flow ∷ flows) = ((record { some = omega arith; all = refl }, (decimal_plain j, numbers_plain flow)), flow_lines_plain (j + 1) flows)

record IsSameSegments (a b : List Segment) (tail tail' : List (List (List ℕ))) : Type 0 where
  pub sides : map (λ s. s.side) a ≡ map (λ s. s.side) b
  pub points : map (λ s. s.at) a ≡ map (λ s. s.at) b
  pub same_tail : tail ≡ tail'

-- a line of a segment begins with `s`
same_segments : (net : Network) (i : ℕ) (a b : List Segment) (tail tail' : List (List (List ℕ))) → AllByRecursion (IsSegmentShape net) a → AllByRecursion (IsSegmentShape net) b
    → mark tail ≢ 115 → mark tail' ≢ 115 → segment_lines net i a ++ tail ≡ segment_lines net i b ++ tail' → IsSameSegments a b tail tail'
same_segments net i [] [] tail tail' sa sb other other' e = record { sides = refl; points = refl; same_tail = e }
same_segments net i [] (t ∷ b) tail tail' sa sb other other' e = absurd (other (ap mark e))
same_segments net i (s ∷ a) [] tail tail' sa sb other other' e = absurd (other' (sym (ap mark e)))
same_segments net i (s ∷ a) (t ∷ b) tail tail' sa sb other other' e =
    let side = same_side s.side t.side (ap (field_at 0 4) e) in
    let at = same_fraction s.at t.at sa.0.point sb.0.point (ap (field_at 1 2) e) (ap (field_at 1 3) e) in
    let later : segment_lines net (i + 1) a ++ tail ≡ segment_lines net (i + 1) b ++ tail' = ap (drop 2) e in
    let back = same_segments net (i + 1) a b tail tail' sa.1 sb.1 other other' later in
    let sides = back.sides in
    let points = back.points in
    record { sides = cc; points = cc; same_tail = back.same_tail }

abbrev end : List (List (List ℕ))
end = (codes "end" ∷ []) ∷ []

flows_mark : (j : ℕ) (flows : List (List ℤ)) → mark (flow_lines j flows ++ end) ≢ 115
flows_mark j [] same = omega (arith, same)
flows_mark j (flow ∷ flows) same = omega (arith, same)

same_flows : (net : Network) (j : ℕ) (a b : List (List ℤ)) → AllByRecursion (IsFlowShape net) a → AllByRecursion (IsFlowShape net) b → flow_lines j a ++ end ≡ flow_lines j b ++ end → a ≡ b
same_flows net j [] [] sa sb e = refl
same_flows net j [] (y ∷ b) sa sb e = absurd (let byte = ap mark e in omega (arith, byte))
same_flows net j (x ∷ a) [] sa sb e = absurd (let byte = ap mark e in omega (arith, byte))
same_flows net j (x ∷ a) (y ∷ b) sa sb e =
    let here = same_flow net x y sa.0 sb.0 (ap (λ (ls : List (List (List ℕ))). drop 2 (get_or ls 0 [])) e) in
    let back = same_flows net (j + 1) a b sa.1 sb.1 (ap (drop 1) e) in
    cc

-- ---- the whole curve

abbrev curve_of : List Fraction → List (List Bool) → List (List ℤ) → Curve
curve_of points cuts flows = record { points = points; cuts = cuts; flows = flows }

abbrev first_lines : Network → List (List Bool) → Fraction → List ℤ → List (List (List ℕ))
first_lines net cuts at flow = (codes "o" ∷ codes "curve" ∷ []) ∷ (codes "k" ∷ decimal (length cuts) ∷ []) ∷ (codes "b" ∷ decimal 0 ∷ point_fields net at flow) ∷ []

abbrev curve_lines : Network → List (List Bool) → Fraction → List Fraction → List ℤ → List (List ℤ) → List (List (List ℕ))
curve_lines net cuts at points flow flows =
    (codes "o" ∷ codes "curve" ∷ []) ∷ (codes "k" ∷ decimal (length cuts) ∷ []) ∷ (codes "b" ∷ decimal 0 ∷ point_fields net at flow)
    ∷ (segment_lines net 1 (segments_of cuts points flows) ++ (flow_lines 0 (flow ∷ flows) ++ end))

six : (a b c d e f : List ℕ) → a ++ b ++ (c ++ d) ++ e ++ f ≡ a ++ (b ++ (c ++ (d ++ (e ++ (f ++ [])))))
six a b c d e f = simp (append_assoc, append-nil)

curve_text_is : (net : Network) (cuts : List (List Bool)) (at : Fraction) (points : List Fraction) (flow : List ℤ) (flows : List (List ℤ))
    → curve_text net (curve_of (at ∷ points) cuts (flow ∷ flows)) ≡ lines_text (curve_lines net cuts at points flow flows)
unfolding curve_text
curve_text_is net cuts at points flow flows =
    let a = line (codes "o" ∷ codes "curve" ∷ []) in
    let b = line (codes "k" ∷ decimal (length cuts) ∷ []) in
    let c = line (codes "b" ∷ decimal 0 ∷ point_fields net at flow) in
    let segments = segment_lines net 1 (segments_of cuts points flows) in
    let last = flow_lines 0 (flow ∷ flows) in
    six a b c (segments_text net 1 cuts points flows) (flows_text 0 (flow ∷ flows)) (line (codes "end" ∷ []))
    ∙ ap (λ (t : List ℕ). a ++ (b ++ (c ++ t)))
    (ap (λ (t : List ℕ). t ++ (flows_text 0 (flow ∷ flows) ++ lines_text end)) (segments_text_is net 1 cuts points flows)
    ∙ ap (λ (t : List ℕ). lines_text segments ++ (t ++ lines_text end)) (flows_text_is 0 (flow ∷ flows))
    ∙ ap (λ (t : List ℕ). lines_text segments ++ t) (sym (lines_text-append last end))
    ∙ sym (lines_text-append segments (last ++ end)))

-- what the shape says, by recursion on the lists
record HasShape (net : Network) (cuts : List (List Bool)) (at : Fraction) (points : List Fraction) (flow : List ℤ) (flows : List (List ℤ)) : Type 0 where
  pub count : length points ≡ length cuts
  pub flow_count : length flows ≡ length cuts
  pub first_point : IsFractionShape at
  pub segments : AllByRecursion (IsSegmentShape net) (segments_of cuts points flows)
  pub all_flows : AllByRecursion (IsFlowShape net) (flow ∷ flows)

has_shape : (net : Network) (cuts : List (List Bool)) (at : Fraction) (points : List Fraction) (flow : List ℤ) (flows : List (List ℤ))
    → IsCurveShape net (curve_of (at ∷ points) cuts (flow ∷ flows)) → HasShape net cuts at points flow flows
has_shape net cuts at points flow flows shape =
    let count = shape.count in
    let flow_count = shape.flow_count in
    let fractions = recursion_from_All IsFractionShape (at ∷ points) shape.points in
    record {
      count = omega (arith, count);
      flow_count = omega (arith, count, flow_count);
      first_point = fractions.0;
      segments = segments_shape net cuts points flows (recursion_from_All (IsNetworkCut net) cuts shape.cuts) fractions.1;
      all_flows = recursion_from_All (IsFlowShape net) (flow ∷ flows) shape.flows;
    }

curve_lines_plain : (net : Network) (cuts : List (List Bool)) (at : Fraction) (points : List Fraction) (flow : List ℤ) (flows : List (List ℤ))
    → HasShape net cuts at points flow flows → AllByRecursion ArePlain (curve_lines net cuts at points flow flows)
curve_lines_plain net cuts at points flow flows shape =
    let segments = segment_lines net 1 (segments_of cuts points flows) in
    let last = flow_lines 0 (flow ∷ flows) in (
      (record { some = omega arith; all = refl }, (record { some = omega arith; all = refl }, tt)),
      (
        (record { some = omega arith; all = refl }, (decimal_plain _, tt)),
        (
          (record { some = omega arith; all = refl }, (decimal_plain 0, point_plain net at flow)),
          all_plain segments (last ++ end) (segment_lines_plain net 1 (segments_of cuts points flows) shape.segments) (all_plain last end (flow_lines_plain 0 (flow ∷ flows)) end_plain),
        ),
      ),
    )

curve_of_parts : (points points' : List Fraction) (cuts cuts' : List (List Bool)) (flows flows' : List (List ℤ)) → points ≡ points' → cuts ≡ cuts' → flows ≡ flows'
    → curve_of points cuts flows ≡ curve_of points' cuts' flows'
curve_of_parts points points' cuts cuts' flows flows' e f g = cc

same_curve_by : (net : Network) (cuts : List (List Bool)) (at : Fraction) (points : List Fraction) (flow : List ℤ) (flows : List (List ℤ))
    (cuts' : List (List Bool)) (at' : Fraction) (points' : List Fraction) (flow' : List ℤ) (flows' : List (List ℤ))
    → HasShape net cuts at points flow flows → HasShape net cuts' at' points' flow' flows'
    → curve_text net (curve_of (at ∷ points) cuts (flow ∷ flows)) ≡ curve_text net (curve_of (at' ∷ points') cuts' (flow' ∷ flows'))
    → curve_of (at ∷ points) cuts (flow ∷ flows) ≡ curve_of (at' ∷ points') cuts' (flow' ∷ flows')
same_curve_by net cuts at points flow flows cuts' at' points' flow' flows' shape shape' e =
    let lines : curve_lines net cuts at points flow flows ≡ curve_lines net cuts' at' points' flow' flows' =
    same_lines (curve_lines net cuts at points flow flows) (curve_lines net cuts' at' points' flow' flows')
    (curve_lines_plain net cuts at points flow flows shape) (curve_lines_plain net cuts' at' points' flow' flows' shape')
    (sym (curve_text_is net cuts at points flow flows) ∙ e ∙ curve_text_is net cuts' at' points' flow' flows') in
    let first = same_fraction at at' shape.first_point shape'.first_point (ap (field_at 2 2) lines) (ap (field_at 2 3) lines) in
    let rest = same_segments net 1 (segments_of cuts points flows) (segments_of cuts' points' flows') (flow_lines 0 (flow ∷ flows) ++ end) (flow_lines 0 (flow' ∷ flows') ++ end)
    shape.segments shape'.segments (flows_mark 0 (flow ∷ flows)) (flows_mark 0 (flow' ∷ flows')) (ap (drop 3) lines) in
    let same_cuts : cuts ≡ cuts' = sym (sides_are cuts points flows shape.count shape.flow_count) ∙ rest.sides ∙ sides_are cuts' points' flows' shape'.count shape'.flow_count in
    let same_points : points ≡ points' = sym (points_are cuts points flows shape.count shape.flow_count) ∙ rest.points ∙ points_are cuts' points' flows' shape'.count shape'.flow_count in
    let all_points : at ∷ points ≡ at' ∷ points' = ap (λ (x : Fraction). x ∷ points) first ∙ ap (λ (ps : List Fraction). at' ∷ ps) same_points in
    let all_flows : flow ∷ flows ≡ flow' ∷ flows' = same_flows net 0 (flow ∷ flows) (flow' ∷ flows') shape.all_flows shape'.all_flows rest.same_tail in
    curve_of_parts (at ∷ points) (at' ∷ points') cuts cuts' (flow ∷ flows) (flow' ∷ flows') all_points same_cuts all_flows

same_curve_of : (net : Network) (points points' : List Fraction) (cuts cuts' : List (List Bool)) (flows flows' : List (List ℤ))
    → IsCurveShape net (curve_of points cuts flows) → IsCurveShape net (curve_of points' cuts' flows')
    → curve_text net (curve_of points cuts flows) ≡ curve_text net (curve_of points' cuts' flows') → curve_of points cuts flows ≡ curve_of points' cuts' flows'
same_curve_of net [] points' cuts cuts' flows flows' shape shape' e = absurd (let n = shape.count in omega (arith, n))
same_curve_of net (at ∷ points) points' cuts cuts' [] flows' shape shape' e = absurd (let n = shape.flow_count in omega (arith, n))
same_curve_of net (at ∷ points) [] cuts cuts' (flow ∷ flows) flows' shape shape' e = absurd (let n = shape'.count in omega (arith, n))
same_curve_of net (at ∷ points) (at' ∷ points') cuts cuts' (flow ∷ flows) [] shape shape' e = absurd (let n = shape'.flow_count in omega (arith, n))
same_curve_of net (at ∷ points) (at' ∷ points') cuts cuts' (flow ∷ flows) (flow' ∷ flows') shape shape' e =
    same_curve_by net cuts at points flow flows cuts' at' points' flow' flows' (has_shape net cuts at points flow flows shape) (has_shape net cuts' at' points' flow' flows' shape') e

pub same_curve : (net : Network) (a b : Curve) → IsCurveShape net a → IsCurveShape net b → curve_text net a ≡ curve_text net b → a ≡ b
same_curve net a b sa sb e = same_curve_of net a.points b.points a.cuts b.cuts a.flows b.flows sa sb e
