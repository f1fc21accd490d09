-- How the code keeps graphs and partitions.
use Rattle.std.specs.Prelude.{◌≡◌, ℕ, ◌<◌, ◌≤◌, pos, List, length, map}
use Rattle.pf_model.specs.Digraph.{Digraph}
use Rattle.pf_graph.specs.WeightedGraph.{WeightedGraph}
use Rattle.pf_graph.specs.Labels.{greatest_label, IsPartition}

-- a graph with a weight and a price beside each edge, and a cost beside each vertex
abbrev pub with_numbers : Digraph → List ℕ → List ℕ → List ℕ → WeightedGraph
with_numbers g weights costs prices = record {
  nodes = g.nodes;
  ends = g.ends;
  weights = map pos weights;
  costs = map pos costs;
  prices = map pos prices;
}

-- a partition is kept as its labels and the greatest of them
pub record IsKeptPartition (labels : List ℕ) (count : ℕ) : Type 0 where
  pub some : 0 < length labels
  pub few : length labels ≤ 8192
  pub partition : IsPartition (length labels) labels
  pub count_is : count ≡ greatest_label labels
