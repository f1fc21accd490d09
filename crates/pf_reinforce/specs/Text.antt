-- The text of a reinforcement, or of what blocks one.
use Rattle.std.specs.Prelude.{◌≡◌, ℕ, ◌+◌, ℤ, List, [], ◌∷◌, ◌++◌, length, map, codes}
use Rattle.std.specs.Fmt.{decimal, signed_decimal}
use Rattle.pf_model.specs.Fraction.{Fraction}
use Rattle.pf_text.specs.Spelling.{line, head, row_line, fraction_line, label_line}
use Rattle.pf_strength.specs.Text.{splits_text}
use Rattle.pf_reinforce.specs.declared.reinforcement.Reinforcement.{Reinforcement}
use Rattle.pf_reinforce.specs.declared.reinforcement.Reinforcement.TheVariants.{Added, Blocked}
use Rattle.pf_reinforce.specs.Reinforcement.{AddedAnswer}

-- a threshold: its number, its price, and a label for each vertex
abbrev pub threshold_line : ℕ → ℤ → List ℕ → List ℕ
threshold_line j price labels = line (head (codes "t") (j ∷ []) ++ (signed_decimal price ∷ map decimal labels))

-- the thresholds, each with its partition, after so many others; texts number them from 1
abbrev pub thresholds_text : ℕ → List ℤ → List (List ℕ) → List ℕ
thresholds_text j [] partitions = []
thresholds_text j (price ∷ prices) [] = []
thresholds_text j (price ∷ prices) (labels ∷ partitions) = threshold_line (j + 1) price labels ++ thresholds_text (j + 1) prices partitions

-- the level, the cost, what is added and the vector
abbrev pub front_text : Fraction → ℤ → List ℤ → List ℤ → List ℕ
front_text level cost added vector =
    line (codes "o" ∷ codes "reinforce" ∷ [])
    ++ fraction_line (codes "d") [] level []
    ++ row_line (codes "c") [] (cost ∷ [])
    ++ row_line (codes "x") [] added
    ++ row_line (codes "y") [] vector

-- the number of thresholds, each with its partition, and the splits
abbrev pub back_text : List ℤ → List (List ℕ) → List (List ℤ) → List ℕ
back_text thresholds partitions splits =
    row_line (codes "k") (length thresholds ∷ []) []
    ++ thresholds_text 0 thresholds partitions
    ++ splits_text 0 splits
    ++ line (codes "end" ∷ [])

-- the text of what is added
unfoldable pub added_text : AddedAnswer → List ℕ
added_text a = front_text a.level a.cost a.added a.vector ++ back_text a.thresholds a.parts a.splits

-- the components, as labels
unfoldable pub blocked_text : List ℕ → List ℕ
blocked_text labels = line (codes "o" ∷ codes "reinforce" ∷ []) ++ line (codes "none" ∷ []) ++ label_line (codes "s") [] labels ++ line (codes "end" ∷ [])

-- there is a partition for each threshold
abbrev pub IsTextShape : Reinforcement → Type 0
IsTextShape (Added a) = length a.parts ≡ length a.thresholds
IsTextShape (Blocked labels) = Unit {0}

-- the text of an answer
abbrev pub reinforcement_text : Reinforcement → List ℕ
reinforcement_text (Added a) = added_text a
reinforcement_text (Blocked labels) = blocked_text labels
