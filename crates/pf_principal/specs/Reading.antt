-- What the parts of a principal partition's text are.
use Rattle.std.specs.Prelude.{◌≡◌, ℕ, zero, suc, ◌*◌, ◌<◌, ℤ, List, [], ◌∷◌, ◌++◌, length, get_or, All, codes}
use Rattle.pf_frame.specs.Numbers.{IsSized}
use Rattle.pf_lines.specs.Taking.{IsValued}
use Rattle.pf_graph.specs.WeightedGraph.{WeightedGraph, digraph_of}
use Rattle.pf_graph.specs.Labels.{IsPartition}
use Rattle.pf_graph.specs.Best.{partition_value}
use Rattle.pf_text.specs.Spelling.{row_line}
use Rattle.pf_principal.specs.Text.{LevelRows, part_line, steps_text, level_text, levels_text, levels_rows, splits_text}
use Rattle.pf_principal.specs.declared.text.Parts.{Parts}
use Rattle.pf_principal.specs.declared.steps.Step.{Step}

-- a level with a value, and a partition
pub record IsStepShape (nodes : ℕ) (step : Step) : Type 0 where
  pub level : IsValued step.level
  pub partition : IsPartition nodes step.partition

-- the partition before a step
abbrev pub before_step : List ℕ → List Step → ℕ → List ℕ
before_step first steps zero = first
before_step first [] (suc i) = []
before_step first (step ∷ steps) (suc i) = before_step step.partition steps i

-- the value of a step is that of the partition before it
pub record HasValue (g : WeightedGraph) (before : List ℕ) (step : Step) : Type 0 where
  pub value_is : step.level.value ≡ partition_value g before step.level.at

pub record HaveValues (g : WeightedGraph) (first : List ℕ) (steps : List Step) : Type 0 where
  pub each : (i : ℕ) (d : Step) → i < length steps → HasValue g (before_step first steps i) (get_or steps i d)

-- a row of one number per edge for the vector and for each root
pub record IsRowsShape (g : WeightedGraph) (rows : LevelRows) : Type 0 where
  pub vector : IsSized (digraph_of g) rows.vector
  pub count : length rows.splits ≡ g.nodes
  pub splits : All (IsSized (digraph_of g)) rows.splits

-- the splits of a level, taken from a text and added to a table
pub record TakesSplits (g : WeightedGraph) (j count : ℕ) (table table_now : List (List ℤ)) (text text_now : List ℕ) : Type 0 where
  pub rows : List (List ℤ)
  pub count_is : length rows ≡ count
  pub sized : All (IsSized (digraph_of g)) rows
  pub table_is : table_now ≡ table ++ rows
  pub text_is : text ≡ splits_text j 0 rows ++ text_now

-- the vector and the splits of a level
pub record TakesLevel (g : WeightedGraph) (j : ℕ) (vectors vectors_now splits splits_now : List (List ℤ)) (text text_now : List ℕ) : Type 0 where
  pub rows : LevelRows
  pub shape : IsRowsShape g rows
  pub vectors_are : vectors_now ≡ vectors ++ rows.vector ∷ []
  pub splits_are : splits_now ≡ splits ++ rows.splits
  pub text_is : text ≡ level_text j rows ++ text_now

-- a vector for each level, and a split for each level and root
pub record AreTables (g : WeightedGraph) (count : ℕ) (vectors splits : List (List ℤ)) : Type 0 where
  pub vector_rows : length vectors ≡ count
  pub vectors_sized : All (IsSized (digraph_of g)) vectors
  pub split_rows : length splits ≡ count * g.nodes
  pub splits_sized : All (IsSized (digraph_of g)) splits

-- what the whole text says, whatever the values are
abbrev pub parts_text : WeightedGraph → Parts → List ℕ
parts_text g parts =
    codes "o partition\n"
    ++ row_line (codes "k") (length parts.steps ∷ []) []
    ++ part_line 0 parts.first
    ++ steps_text 0 parts.steps
    ++ levels_text 0 (levels_rows g.nodes parts.vectors parts.splits)
    ++ codes "end\n"

pub record IsPartsShape (g : WeightedGraph) (parts : Parts) : Type 0 where
  pub first : IsPartition g.nodes parts.first
  pub steps : All (IsStepShape g.nodes) parts.steps
  pub tables : AreTables g (length parts.steps) parts.vectors parts.splits
