-- Points and cuts, taken from the front of a text one after another.
use Rattle.std.proofs.Common.{◌≡◌, ℕ, ◌+◌, ◌<◌, ◌≤◌, ◌^◌, Bool, List, [], ◌∷◌, ◌++◌, length, map, refl, sym, ap, subst, ◌∙◌, append_assoc, arith}
use Rattle.std.specs.Prelude.{ℤ, All}
use Rattle.std.proofs.lemmas.List.{length-append, length-map}
use Rattle.std.proofs.lemmas.List.Elements.{All-nil, All-cons, All-tail, All-map}
use Rattle.pf_model.specs.Fraction.{Fraction}
use Rattle.pf_model.specs.Network.{Network, IsNetworkCut}
use Rattle.pf_model.specs.Answer.{IsFractionShape, IsWithinSize}
use Rattle.pf_lines.specs.declared.taking.Valued.{Valued}
use Rattle.pf_lines.specs.Taking.{IsValued}
use Rattle.pf_lines.proofs.ItemsTaken.{Items}
use Rattle.pf_lines.proofs.PartsTaken.{Parts, PartsStand, HasParts, parts_text}
use Rattle.pf_par.specs.Outline.{IsOutlineShape, IsSegmentShape, point_line, points_outline, segment_text, segments_outline}
use Rattle.pf_par.specs.declared.outline.Outline.{Outline}
use Rattle.pf_par.specs.declared.outline.Segment.{Segment}

-- ---- outlines of a first point and segments

abbrev outline_by : List Fraction → List (List Bool) → List ℤ → Outline
outline_by points cuts values = record { points = points; cuts = cuts; values = values }

-- the three lists of segments
abbrev lists_of : List Segment → Outline
lists_of segments = outline_by (map (λ (s : Segment). s.point.at) segments) (map (λ (s : Segment). s.side) segments) (map (λ (s : Segment). s.point.value) segments)

-- these lists after a point
abbrev pub behind_point : Valued → Outline → Outline
behind_point first o = outline_by (first.at ∷ o.points) o.cuts (first.value ∷ o.values)

-- these lists, and a segment after them
abbrev pub with_segment : Segment → Outline → Outline
with_segment s o = outline_by (o.points ++ s.point.at ∷ []) (o.cuts ++ s.side ∷ []) (o.values ++ s.point.value ∷ [])

pub lists_more : (segments : List Segment) (segment : Segment) → with_segment segment (lists_of segments) ≡ lists_of (segments ++ segment ∷ [])
lists_more [] segment = refl
lists_more (s ∷ segments) segment = ap (λ (o : Outline). outline_by (s.point.at ∷ o.points) (s.side ∷ o.cuts) (s.point.value ∷ o.values)) (lists_more segments segment)

-- the lines of segments from a place on
abbrev pub segment_lines : Network → ℕ → List Segment → List ℕ
segment_lines net j segments = segments_outline net (j + 1) (lists_of segments).cuts (lists_of segments).points (lists_of segments).values

abbrev pub segment_items : Network → Items Segment
segment_items net = record {
  text = λ j segments. segment_lines net j segments;
  item = λ j segment. segment_text net (j + 1) segment;
  none = λ j. refl;
  more = λ j segment segments. refl;
  Is = IsSegmentShape net;
  MayFollow = λ rest. Unit {0};
  follows = λ j segment rest. tt;
}

-- a first point, and the segments after it
abbrev pub outline_parts : Network → Parts Valued Segment Outline
outline_parts net = record {
  line = λ first. point_line 0 first;
  IsFirst = IsValued;
  items = segment_items net;
  lists = λ first segments. behind_point first (lists_of segments);
  add = λ segment o. with_segment segment o;
  more = λ first segments segment. ap (λ (o : Outline). behind_point first o) (lists_more segments segment);
}

-- ---- the outline that stands there

-- the segments that three lists make up
record AreLists (net : Network) (o : Outline) : Type 0 where
  segments : List Segment
  is : o ≡ lists_of segments
  each : All (IsSegmentShape net) segments

lists_are : (net : Network) (cuts : List (List Bool)) (points : List Fraction) (values : List ℤ) → length points ≡ length cuts → length values ≡ length cuts
    → All (IsNetworkCut net) cuts → All IsFractionShape points → All (IsWithinSize (2 ^ 120)) values → AreLists net (outline_by points cuts values)
lists_are net [] [] [] e f a b c = record { segments = []; is = refl; each = All-nil (IsSegmentShape net) }
lists_are net [] [] (v ∷ values) e f a b c = absurd (omega (arith, f))
lists_are net [] (p ∷ points) values e f a b c = absurd (omega (arith, e))
lists_are net (s ∷ cuts) [] values e f a b c = absurd (omega (arith, e))
lists_are net (s ∷ cuts) (p ∷ points) [] e f a b c = absurd (omega (arith, f))
lists_are net (s ∷ cuts) (p ∷ points) (v ∷ values) e f a b c =
    let segment : Segment = record { side = s; point = record { at = p; value = v } } in
    let shape : IsSegmentShape net segment = record { cut = a 0 s (omega arith); point = record { at = b 0 p (omega arith); value = c 0 v (omega arith) } } in
    let l = lists_are net cuts points values (omega (arith, e)) (omega (arith, f)) (All-tail (IsNetworkCut net) s cuts a) (All-tail IsFractionShape p points b) (All-tail (IsWithinSize (2 ^ 120)) v values c) in
    record {
      segments = segment ∷ l.segments;
      is = ap (λ (o : Outline). outline_by (p ∷ o.points) (s ∷ o.cuts) (v ∷ o.values)) l.is;
      each = All-cons (IsSegmentShape net) segment l.segments shape l.each;
    }

-- the first point and the segments of an outline whose text stands there
pub record IsSplit (net : Network) (count : ℕ) (old rest : List ℕ) (whole : Outline) : Type 0 where
  pub first : Valued
  pub segments : List Segment
  pub is : whole ≡ behind_point first (lists_of segments)
  pub stand : PartsStand (outline_parts net) count old first segments rest

pub split_of : (net : Network) (count : ℕ) (old rest : List ℕ) (points : List Fraction) (cuts : List (List Bool)) (values : List ℤ) → IsOutlineShape net (outline_by points cuts values) → length cuts ≡ count
    → old ≡ points_outline net cuts points values ++ rest → IsSplit net count old rest (outline_by points cuts values)
split_of net count old rest [] cuts values shape full e = absurd (let n = shape.count in omega (arith, n))
split_of net count old rest (p ∷ points) cuts [] shape full e = absurd (let n = shape.value_count in omega (arith, n))
split_of net count old rest (p ∷ points) cuts (v ∷ values) shape full e =
    let n = shape.count in
    let m = shape.value_count in
    let l = lists_are net cuts points values (omega (arith, n)) (omega (arith, n, m)) shape.cuts (All-tail IsFractionShape p points shape.points) (All-tail (IsWithinSize (2 ^ 120)) v values shape.values) in
    let first : Valued = record { at = p; value = v } in
    let is = ap (λ (o : Outline). behind_point first o) l.is in
    record {
      first = first;
      segments = l.segments;
      is = is;
      stand = record {
        shape = record { at = shape.points 0 p (omega arith); value = shape.values 0 v (omega arith) };
        full = sym (length-map l.segments (λ (s : Segment). s.side)) ∙ ap (λ (o : Outline). length o.cuts) (sym l.is) ∙ full;
        each = l.each;
        behind = tt;
        text = e ∙ ap (λ (o : Outline). points_outline net o.cuts o.points o.values ++ rest) is ∙ append_assoc (point_line 0 first) (segment_lines net 0 l.segments) rest;
      };
    }

-- ---- what was taken

module _ (net : Network) (count : ℕ) (old now : List ℕ) (i : ℕ) (o : Outline) (taken : HasParts (outline_parts net) count old now i o) where
  pub text_taken : old ≡ points_outline net o.cuts o.points o.values ++ now
  text_taken =
      parts_text (outline_parts net) count old now i o taken ∙ sym (append_assoc (point_line 0 taken.first) (segment_lines net 0 taken.got) now)
      ∙ ap (λ (x : Outline). points_outline net x.cuts x.points x.values ++ now) (sym taken.is)

  pub shape_taken : 0 < i → IsOutlineShape net o × (length o.cuts ≡ i)
  shape_taken some =
      let segments = taken.got in
      let n = length-map segments (λ (s : Segment). s.side) ∙ taken.taken.number in
      let m = length-map segments (λ (s : Segment). s.point.at) ∙ taken.taken.number in
      let k = length-map segments (λ (s : Segment). s.point.value) ∙ taken.taken.number in
      let each = taken.taken.each in
      let P : Outline → Type 0 = λ x. IsOutlineShape net x × (length x.cuts ≡ i) in
      let shape : IsOutlineShape net (behind_point taken.first (lists_of segments)) = record {
        some = omega (arith, n, some);
        count = omega (arith, n, m);
        value_count = omega (arith, m, k);
        points = All-cons IsFractionShape _ _ taken.shape.at (All-map IsFractionShape (λ (s : Segment). s.point.at) segments (λ j d low. (each j d low).point.at));
        cuts = All-map (IsNetworkCut net) (λ (s : Segment). s.side) segments (λ j d low. (each j d low).cut);
        values = All-cons (IsWithinSize (2 ^ 120)) _ _ taken.shape.value (All-map (IsWithinSize (2 ^ 120)) (λ (s : Segment). s.point.value) segments (λ j d low. (each j d low).point.value));
      } in
      subst P (sym taken.is) (shape, n)

-- ---- there are at least as many bytes as cuts

segments_bytes : (net : Network) (j : ℕ) (segments : List Segment) → length segments ≤ length (segment_lines net j segments)
segments_bytes net j [] = omega arith
segments_bytes net j (s ∷ segments) =
    let some : 0 < length (segment_text net (j + 1) s) = omega arith in
    let more = segments_bytes net (j + 1) segments in
    omega (arith, length-append (segment_text net (j + 1) s) (segment_lines net (j + 1) segments), some, more)

pub points_bytes : (net : Network) (o : Outline) (rest : List ℕ) → IsOutlineShape net o → length o.cuts ≤ length (points_outline net o.cuts o.points o.values ++ rest)
points_bytes net o rest shape =
    let s = split_of net (length o.cuts) (points_outline net o.cuts o.points o.values ++ rest) rest o.points o.cuts o.values shape refl refl in
    let lines = segment_lines net 0 s.segments in
    let all = s.stand.full in
    omega (arith, ap length s.stand.text, length-append (point_line 0 s.first) (lines ++ rest), length-append lines rest, segments_bytes net 0 s.segments, all)
