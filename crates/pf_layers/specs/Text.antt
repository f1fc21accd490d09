-- The text of layers.
use Rattle.std.specs.Prelude.{ℕ, ◌+◌, List, [], ◌∷◌, ◌++◌, length, codes}
use Rattle.pf_model.specs.Fraction.{Fraction}
use Rattle.pf_text.specs.Spelling.{line, row_line, fraction_line}
use Rattle.pf_layers.specs.Answer.{LayersAnswer}

-- the line of the level of layer j
abbrev pub level_line : ℕ → Fraction → List ℕ
level_line j level = fraction_line (codes "l") (j ∷ []) level []

-- the levels from that of layer j + 1 on
abbrev pub levels_text : ℕ → List Fraction → List ℕ
levels_text j [] = []
levels_text j (level ∷ levels) = level_line (j + 1) level ++ levels_text (j + 1) levels

-- the number of layers, the level of each, and beside each element the number of its layer
unfoldable pub layers_text : LayersAnswer → List ℕ
layers_text answer =
    line (codes "o" ∷ codes "layers" ∷ [])
    ++ row_line (codes "k") (length answer.levels ∷ []) []
    ++ levels_text 0 answer.levels
    ++ row_line (codes "m") [] answer.layers
    ++ line (codes "end" ∷ [])
