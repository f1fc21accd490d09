-- The text of a principal partition.
use Rattle.std.specs.Prelude.{ℕ, ◌+◌, ℤ, List, [], ◌∷◌, ◌++◌, length, take, drop, codes}
use Rattle.pf_model.specs.Fraction.{Fraction}
use Rattle.pf_lines.specs.declared.taking.Valued.{Valued}
use Rattle.pf_lines.specs.Taking.{valued_line}
use Rattle.pf_text.specs.Spelling.{line, row_line, label_line}
use Rattle.pf_graph.specs.WeightedGraph.{WeightedGraph}
use Rattle.pf_graph.specs.Best.{partition_value, partition_at}
use Rattle.pf_principal.specs.Principal.{PrincipalAnswer}
use Rattle.pf_principal.specs.declared.steps.Step.{Step}

-- ---- levels and partitions

-- the line of the partition j
abbrev pub part_line : ℕ → List ℕ → List ℕ
part_line j labels = label_line (codes "s") (j ∷ []) labels

-- the line of the level j, with a value there
abbrev pub level_line : ℕ → Valued → List ℕ
level_line j level = valued_line (codes "b") (j ∷ []) level

-- the level j, and the partition after it
abbrev pub step_text : ℕ → Step → List ℕ
step_text j step = level_line j step.level ++ part_line j step.partition

-- steps after the first j; texts number levels from 1
abbrev pub steps_text : ℕ → List Step → List ℕ
steps_text j [] = []
steps_text j (step ∷ steps) = step_text (j + 1) step ++ steps_text (j + 1) steps

-- a level, with the value there of the partition before it, and the partition after it
abbrev pub step_of : WeightedGraph → List ℕ → Fraction → List ℕ → Step
step_of g before level labels = record { level = record { at = level; value = partition_value g before level }; partition = labels }

abbrev pub steps_of : WeightedGraph → List ℕ → List Fraction → List (List ℕ) → List Step
steps_of g before (level ∷ levels) (labels ∷ partitions) = step_of g before level labels ∷ steps_of g labels levels partitions
steps_of g before levels partitions = []

-- ---- vectors and splits

-- a vector, and a split for each root
pub record LevelRows : Type 0 where
  pub vector : List ℤ
  pub splits : List (List ℤ)

-- the split of the level j for the root r; texts number both from 1
abbrev pub split_line : ℕ → ℕ → List ℤ → List ℕ
split_line j r row = row_line (codes "r") (j ∷ ((r + 1) ∷ [])) row

-- the splits of a level, from that of the root r on
abbrev pub splits_text : ℕ → ℕ → List (List ℤ) → List ℕ
splits_text j r [] = []
splits_text j r (row ∷ rows) = split_line j r row ++ splits_text j (r + 1) rows

abbrev pub vector_line : ℕ → List ℤ → List ℕ
vector_line j vector = row_line (codes "y") (j ∷ []) vector

-- the vector of the level j, and its splits
abbrev pub level_text : ℕ → LevelRows → List ℕ
level_text j rows = vector_line j rows.vector ++ splits_text j 0 rows.splits

-- those of the levels after the first j
abbrev pub levels_text : ℕ → List LevelRows → List ℕ
levels_text j [] = []
levels_text j (rows ∷ later) = level_text (j + 1) rows ++ levels_text (j + 1) later

-- the vector of each level beside its splits, so many for each level
abbrev pub levels_rows : ℕ → List (List ℤ) → List (List ℤ) → List LevelRows
levels_rows n [] splits = []
levels_rows n (vector ∷ vectors) splits = record { vector = vector; splits = take n splits } ∷ levels_rows n vectors (drop n splits)

-- ---- the whole text

-- the text of an answer: the number of levels, the first partition, each level with the partition after it, and then the vector and the splits of each level
unfoldable pub principal_text : WeightedGraph → PrincipalAnswer → List ℕ
principal_text g a =
    line (codes "o" ∷ codes "partition" ∷ [])
    ++ row_line (codes "k") (length a.levels ∷ []) []
    ++ part_line 0 (partition_at a.partitions 0)
    ++ steps_text 0 (steps_of g (partition_at a.partitions 0) a.levels (drop 1 a.partitions))
    ++ levels_text 0 (levels_rows g.nodes a.vectors a.splits)
    ++ line (codes "end" ∷ [])
