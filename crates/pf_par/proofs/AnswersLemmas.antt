-- The texts of answers, one line at a time.
use Rattle.std.proofs.Common.{◌≡◌, ℕ, ◌+◌, ◌<◌, List, [], ◌∷◌, ◌++◌, length, get_or, drop, ap, ◌∙◌}
use Rattle.std.specs.Prelude.{ℤ, Bool, codes}
use Rattle.std.specs.Fmt.{decimal}
use Rattle.pf_model.specs.Fraction.{Fraction}
use Rattle.pf_model.specs.Network.{Network}
use Rattle.pf_text.specs.Spelling.{line}
use Rattle.pf_par.specs.Answers.{point_fields, cut_fields, segments_text}
use Rattle.pf_model.proofs.Facts.{drop_next}

-- segment i, numbered from 1, and those after it
pub segments_text_at : (net : Network) (i : ℕ) (sides : List (List Bool)) (points : List Fraction) (flows : List (List ℤ)) (other : Fraction)
    → i < length sides → i + 1 < length points → i + 1 < length flows
    → segments_text net (i + 1) (drop i sides) (drop (i + 1) points) (drop (i + 1) flows)
    ≡ line (codes "s" ∷ decimal (i + 1) ∷ cut_fields net (get_or sides i []))
    ++ line (codes "b" ∷ decimal (i + 1) ∷ point_fields net (get_or points (i + 1) other) (get_or flows (i + 1) []))
    ++ segments_text net (i + 1 + 1) (drop (i + 1) sides) (drop (i + 1 + 1) points) (drop (i + 1 + 1) flows)
segments_text_at net i sides points flows other side point flow =
    ap (λ (xs : List (List Bool)). segments_text net (i + 1) xs (drop (i + 1) points) (drop (i + 1) flows)) (drop_next sides i [] side)
    ∙ ap (λ (xs : List Fraction). segments_text net (i + 1) (get_or sides i [] ∷ drop (i + 1) sides) xs (drop (i + 1) flows)) (drop_next points (i + 1) other point)
    ∙ ap (λ (xs : List (List ℤ)). segments_text net (i + 1) (get_or sides i [] ∷ drop (i + 1) sides) (get_or points (i + 1) other ∷ drop (i + 1 + 1) points) xs) (drop_next flows (i + 1) [] flow)
