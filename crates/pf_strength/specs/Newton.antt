-- Newton's iteration: partitions of falling ratios, each best at the ratio before.
use Rattle.std.specs.Prelude.{◌≡◌, ℕ, ◌≤◌, ℤ, ◌-ℤ◌, ◌*ℤ◌, ◌≤ℤ◌, pos, List, Some}
use Rattle.pf_model.specs.Fraction.{Fraction, IsParameter, IsBelow}
use Rattle.pf_graph.specs.WeightedGraph.{WeightedGraph}
use Rattle.pf_graph.specs.Labels.{parts, IsPartition}
use Rattle.pf_graph.specs.Best.{crossing_of, partition_value, IsBest}
use Rattle.pf_forest.specs.Forest.{ForestState, IsFilled, IsInRange, MeetsTotal}

-- the level is the ratio of the crossing weight and the number of parts less one
pub record HasRatio (g : WeightedGraph) (x : Fraction) (labels : List ℕ) : Type 0 where
  pub parameter : IsParameter x
  pub level : pos 0 ≤ℤ x.p
  pub attained : x.q *ℤ crossing_of g labels ≡ x.p *ℤ (pos (parts labels) -ℤ pos 1)

-- the partition is best at some greater level
pub record IsBestAbove (g : WeightedGraph) (x : Fraction) (labels : List ℕ) : Type 0 where
  pub above : Fraction
  pub parameter : IsParameter above
  pub below : IsBelow x above
  pub best : IsBest g above labels

-- a step: the forest is filled at the ratio of the best partition so far, and the value of its own partition there is known
pub record IsStep (g : WeightedGraph) (x : Fraction) (labels : List ℕ) (forest : ForestState) (found : ℤ) : Type 0 where
  pub partition : IsPartition g.nodes labels
  pub two : 2 ≤ parts labels
  pub ratio : HasRatio g x labels
  pub above : IsBestAbove g x labels
  pub graph : forest.graph ≡ g
  pub level : forest.level ≡ Some x
  pub filled : IsFilled g x forest.vector forest.labels
  pub found_is : found ≡ partition_value g forest.labels x

-- the last step: the partition is best at its own ratio, at which the forest is filled
pub record IsLast (g : WeightedGraph) (x : Fraction) (labels : List ℕ) (forest : ForestState) : Type 0 where
  pub partition : IsPartition g.nodes labels
  pub two : 2 ≤ parts labels
  pub ratio : HasRatio g x labels
  pub graph : forest.graph ≡ g
  pub level : forest.level ≡ Some x
  pub range : IsInRange g x forest.vector
  pub sum : MeetsTotal g x forest.vector labels
