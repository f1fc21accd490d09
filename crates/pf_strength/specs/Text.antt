-- The text of a strength.
use Rattle.std.specs.Prelude.{ℕ, ◌+◌, ℤ, List, [], ◌∷◌, ◌++◌, codes}
use Rattle.pf_text.specs.Spelling.{line, row_line, fraction_line, label_line, table_text}
use Rattle.pf_graph.specs.Labels.{parts}
use Rattle.pf_strength.specs.Strength.{StrengthAnswer}

-- the number of parts, which is computed from the labels, and the labels
abbrev pub partition_text : List ℕ → List ℕ
partition_text labels = row_line (codes "k") (parts labels ∷ []) [] ++ label_line (codes "s") [] labels

-- the splits, from that of the root r on; texts number the roots from 1
abbrev pub splits_text : ℕ → List (List ℤ) → List ℕ
splits_text r rows = table_text (codes "r") (r + 1) rows

-- the text of an answer: the level, the partition, the vector and the splits
unfoldable pub strength_text : StrengthAnswer → List ℕ
strength_text answer =
    line (codes "o" ∷ codes "strength" ∷ [])
    ++ fraction_line (codes "d") [] answer.level []
    ++ row_line (codes "k") (parts answer.parts ∷ []) []
    ++ label_line (codes "s") [] answer.parts
    ++ row_line (codes "y") [] answer.vector
    ++ splits_text 0 answer.splits
    ++ line (codes "end" ∷ [])
