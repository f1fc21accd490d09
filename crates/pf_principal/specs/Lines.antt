-- The lines of partitions over the level.
use Rattle.std.specs.Prelude.{◌≡◌, ℕ, List, length}
use Rattle.pf_model.specs.Fraction.{Fraction, IsParameter, IsAtMost}
use Rattle.pf_model.specs.Line.{AffineLine}
use Rattle.pf_graph.specs.WeightedGraph.{WeightedGraph}
use Rattle.pf_graph.specs.Labels.{IsPartition}
use Rattle.pf_graph.specs.Best.{partition_line, level_zero}

-- a partition by the label rule, with its line
pub record IsPartitionFound (g : WeightedGraph) (line : AffineLine) (labels : List ℕ) : Type 0 where
  pub partition : IsPartition g.nodes labels
  pub line_is : line ≡ partition_line g labels

-- the line of a list of labels, whichever
pub record IsLineOfPartition (g : WeightedGraph) (line : AffineLine) : Type 0 where
  pub labels : List ℕ
  pub full : length labels ≡ g.nodes
  pub line_is : line ≡ partition_line g labels

-- a level that is not below 0
pub record IsLevel (x : Fraction) : Type 0 where
  pub parameter : IsParameter x
  pub low : IsAtMost level_zero x
