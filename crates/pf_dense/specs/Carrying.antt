-- The charges that a flow of the network gives.
use Rattle.std.specs.Prelude.{◌≡◌, ℕ, suc, ◌+◌, ◌<◌, ℤ, ◌+ℤ◌, ◌-ℤ◌, ◌*ℤ◌, List, length}
use Rattle.pf_model.specs.Fraction.{Fraction}
use Rattle.pf_model.specs.Cut.{at_arc}
use Rattle.pf_graph.specs.WeightedGraph.{WeightedGraph}

-- the arcs of edge k have the numbers 2 n + 2 k, from its first end to its second, and 2 n + 2 k + 1, with n vertices
pub record IsCarried (g : WeightedGraph) (x : Fraction) (flow charges : List ℤ) : Type 0 where
  pub full : length charges ≡ length g.ends
  pub each : (k : ℕ) → k < length g.ends →
      at_arc charges k ≡ ((x.q *ℤ at_arc g.weights k) +ℤ at_arc flow (g.nodes + g.nodes + (k + k))) -ℤ at_arc flow (g.nodes + g.nodes + suc (k + k))
