-- The weights at the vertices, as the code keeps them.
use Rattle.std.specs.Prelude.{◌≡◌, ℕ, ◌<◌, ◌^◌, ℤ, ◌≤ℤ◌, pos, List, length}
use Rattle.pf_model.specs.Cut.{at_arc}
use Rattle.pf_graph.specs.WeightedGraph.{WeightedGraph}
use Rattle.pf_dense.specs.Reduction.{weight_at}

-- beside each vertex stands the weight of the edges there
pub record HasWeights (g : WeightedGraph) (sums : List ℤ) : Type 0 where
  pub full : length sums ≡ g.nodes
  pub each : (v : ℕ) → v < g.nodes → at_arc sums v ≡ weight_at g v
  pub low : (v : ℕ) → v < g.nodes → pos 0 ≤ℤ at_arc sums v
  pub high : (v : ℕ) → v < g.nodes → at_arc sums v ≤ℤ pos (2 ^ 60)
