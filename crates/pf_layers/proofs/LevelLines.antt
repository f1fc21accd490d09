-- The lines of levels, one after another.
use Rattle.std.proofs.Common.{◌≡◌, ℕ, ◌+◌, ◌<◌, List, ◌∷◌, ◌++◌, length, get_or, drop, ap, add-one}
use Rattle.std.proofs.Math.Seq.{drop-cons}
use Rattle.pf_model.specs.Fraction.{Fraction}
use Rattle.pf_layers.specs.Text.{level_line, levels_text}

next : (levels : List Fraction) (j : ℕ) (d : Fraction) → j < length levels → drop j levels ≡ get_or levels j d ∷ drop (j + 1) levels
next levels j d low = rw add-one (drop-cons levels j d low)

-- the line of one level, and those after it
pub levels_text_at : (j : ℕ) (levels : List Fraction) (d : Fraction) → j < length levels →
    levels_text j (drop j levels) ≡ level_line (j + 1) (get_or levels j d) ++ levels_text (j + 1) (drop (j + 1) levels)
levels_text_at j levels d low = ap (levels_text j) (next levels j d low)
