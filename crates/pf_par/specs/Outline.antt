-- What the lines of points and cuts of a curve's text say: the values of the flows stand there, and the flows after them.
use Rattle.std.specs.Prelude.{◌≡◌, ℕ, ◌+◌, ◌<◌, ◌^◌, ℤ, Bool, List, [], ◌∷◌, ◌++◌, length, map, All, codes}
use Rattle.std.specs.Fmt.{decimal, signed_decimal}
use Rattle.pf_model.specs.Fraction.{Fraction}
use Rattle.pf_model.specs.Network.{Network, IsNetworkCut}
use Rattle.pf_model.specs.Answer.{IsWithinSize, IsFractionShape}
use Rattle.pf_text.specs.Spelling.{line}
use Rattle.pf_par.specs.Answers.{value_of, cut_fields}
use Rattle.pf_par.specs.declared.outline.Outline.{Outline}
use Rattle.pf_lines.specs.declared.taking.Valued.{Valued}
use Rattle.pf_lines.specs.Taking.{IsValued, valued_line}
use Rattle.pf_par.specs.declared.outline.Segment.{Segment}

-- a fraction, and the value that is written of the flow there
abbrev pub value_fields : Fraction → ℤ → List (List ℕ)
value_fields at value = signed_decimal at.p ∷ signed_decimal at.q ∷ signed_decimal value ∷ []

-- each cut, and the point after it
abbrev pub segments_outline : Network → ℕ → List (List Bool) → List Fraction → List ℤ → List ℕ
segments_outline net i (side ∷ sides) (at ∷ points) (value ∷ values) =
    line (codes "s" ∷ decimal i ∷ cut_fields net side) ++ line (codes "b" ∷ decimal i ∷ value_fields at value) ++ segments_outline net (i + 1) sides points values
segments_outline net i sides points values = []

-- the first point, and the segments after it
abbrev pub points_outline : Network → List (List Bool) → List Fraction → List ℤ → List ℕ
points_outline net sides (at ∷ points) (value ∷ values) = line (codes "b" ∷ decimal 0 ∷ value_fields at value) ++ segments_outline net 1 sides points values
points_outline net sides points values = []

-- the number of cuts, the points and the cuts
abbrev pub outline_text : Network → Outline → List ℕ
outline_text net o = line (codes "k" ∷ decimal (length o.cuts) ∷ []) ++ points_outline net o.cuts o.points o.values

-- at least one cut, a point more than cuts, and a value for each point
pub record IsOutlineShape (net : Network) (o : Outline) : Type 0 where
  pub some : 0 < length o.cuts
  pub count : length o.points ≡ length o.cuts + 1
  pub value_count : length o.values ≡ length o.points
  pub points : All IsFractionShape o.points
  pub cuts : All (IsNetworkCut net) o.cuts
  pub values : All (IsWithinSize (2 ^ 120)) o.values

-- the value of each flow
abbrev pub values_of : Network → List (List ℤ) → List ℤ
values_of net flows = map (value_of net) flows

-- the line of point i
abbrev pub point_line : ℕ → Valued → List ℕ
point_line i point = valued_line (codes "b") (i ∷ []) point

-- the line of cut i
abbrev pub cut_line : Network → ℕ → List Bool → List ℕ
cut_line net i side = line (codes "s" ∷ decimal i ∷ cut_fields net side)

-- the line of cut i, and that of the point after it
abbrev pub segment_text : Network → ℕ → Segment → List ℕ
segment_text net i segment = cut_line net i segment.side ++ point_line i segment.point

-- a cut, and the point after it
pub record IsSegmentShape (net : Network) (segment : Segment) : Type 0 where
  pub cut : IsNetworkCut net segment.side
  pub point : IsValued segment.point
