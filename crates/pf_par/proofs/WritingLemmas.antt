-- The lines of points, cuts and flows, printed piece by piece.
use Rattle.std.proofs.Common.{◌≡◌, ℕ, ◌<◌, List, [], ◌∷◌, ◌++◌, length, drop, get_or, refl, arith}
use Rattle.std.proofs.lemmas.List.{drop_all}
use Rattle.std.specs.Prelude.{ℤ, Bool, codes}
use Rattle.std.specs.Fmt.{decimal}
use Rattle.pf_model.specs.Fraction.{Fraction}
use Rattle.pf_model.specs.Network.{Network}
use Rattle.pf_text.specs.Spelling.{line}
use Rattle.pf_par.specs.Answers.{point_fields, segments_text, points_text}

-- the first point, and the segments after it
pub points_text_is : (net : Network) (sides : List (List Bool)) (points : List Fraction) (flows : List (List ℤ)) (other : Fraction) → 0 < length points → 0 < length flows
    → line (codes "b" ∷ decimal 0 ∷ point_fields net (get_or points 0 other) (get_or flows 0 [])) ++ segments_text net 1 sides (drop 1 points) (drop 1 flows) ≡ points_text net sides points flows
points_text_is net sides [] flows other some filled = absurd (omega arith)
points_text_is net sides (at ∷ points) [] other some filled = absurd (omega arith)
points_text_is net sides (at ∷ points) (flow ∷ flows) other some filled = refl

-- after the last cut stands nothing
pub segments_text-end : (net : Network) (i : ℕ) (sides : List (List Bool)) (points : List Fraction) (flows : List (List ℤ)) → segments_text net i (drop (length sides) sides) points flows ≡ []
segments_text-end net i sides points flows = rw (drop_all (length sides) sides (omega arith)) refl
