-- What the parts of the test tell.
use Rattle.std.specs.Prelude.{◌≡◌, ℕ, ◌≤◌, ◌≤ℤ◌, pos, List}
use Rattle.pf_model.specs.Fraction.{Fraction}
use Rattle.pf_graph.specs.WeightedGraph.{WeightedGraph}
use Rattle.pf_graph.specs.Labels.{parts}
use Rattle.pf_graph.specs.Best.{partition_value}

-- at least two parts, and the value 0 at a level that is not below 0
pub record IsRatio (g : WeightedGraph) (x : Fraction) (labels : List ℕ) : Type 0 where
  pub two : 2 ≤ parts labels
  pub level : pos 0 ≤ℤ x.p
  pub none : partition_value g labels x ≡ pos 0
