-- Vectors and splits, level by level.
use Rattle.std.specs.Prelude.{◌≡◌, ℕ, ◌+◌, ◌*◌, ◌<◌, ℤ, List, [], ◌∷◌, ◌++◌, length}
use Rattle.pf_model.specs.Fraction.{Fraction}
use Rattle.pf_frame.specs.Lending.{row_at}
use Rattle.pf_frame.specs.Numbers.{IsSized}
use Rattle.pf_graph.specs.WeightedGraph.{WeightedGraph, digraph_of}
use Rattle.pf_graph.specs.Best.{level_at}
use Rattle.pf_forest.specs.Forest.{IsFilled, AreSplits, AddsSplits}

-- the tables have the vector that the forest is filled with at the level, and a split of it for each root, after the rows that they had
pub record AddsLevel (g : WeightedGraph) (x : Fraction) (vectors vectors_now splits splits_now : List (List ℤ)) : Type 0 where
  pub vector : List ℤ
  pub labels : List ℕ
  pub filled : IsFilled g x vector labels
  pub sized : IsSized (digraph_of g) vector
  pub vectors_are : vectors_now ≡ vectors ++ vector ∷ []
  pub splits_are : AddsSplits g x vector splits splits_now g.nodes

-- a vector that the forest is filled with at the level, and the splits of it, from a row on
pub record IsFilledRow (g : WeightedGraph) (x : Fraction) (vector : List ℤ) (splits : List (List ℤ)) (first : ℕ) : Type 0 where
  pub labels : List ℕ
  pub filled : IsFilled g x vector labels
  pub splits_are : AreSplits g x vector splits first g.nodes

-- so for each of the first levels
pub record AreFilled (g : WeightedGraph) (levels : List Fraction) (vectors splits : List (List ℤ)) (count : ℕ) : Type 0 where
  pub vector_rows : length vectors ≡ count
  pub split_rows : length splits ≡ count * g.nodes
  pub each : (j : ℕ) → j < count → IsFilledRow g (level_at levels (j + 1)) (row_at vectors j) splits (j * g.nodes)
  pub vectors_sized : (j : ℕ) → j < length vectors → IsSized (digraph_of g) (row_at vectors j)
  pub splits_sized : (k : ℕ) → k < length splits → IsSized (digraph_of g) (row_at splits k)
