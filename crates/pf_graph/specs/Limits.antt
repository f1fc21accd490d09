-- The limits within which a graph's numbers stay.
use Rattle.std.specs.Prelude.{ℕ, ◌<◌, ◌≤◌, ℤ, ◌≤ℤ◌, pos, length}
use Rattle.pf_model.specs.Cut.{at_arc}
use Rattle.pf_graph.specs.declared.graph.Task.{Task}
use Rattle.pf_graph.specs.declared.graph.Task.TheVariants.{Densest, Partitions}
use Rattle.pf_graph.specs.WeightedGraph.{WeightedGraph, IsWeightedGraph}

-- from 1 to 1000000
pub record IsSmall (x : ℤ) : Type 0 where
  pub low : pos 1 ≤ℤ x
  pub high : x ≤ℤ pos 1000000

-- what holds of every graph that is made
pub record IsWithinLimits (g : WeightedGraph) : Type 0 where
  pub graph : IsWeightedGraph g
  pub nodes : g.nodes ≤ 500
  pub edges : length g.ends ≤ 5000
  pub weights : (i : ℕ) → i < length g.ends → IsSmall (at_arc g.weights i)
  pub costs : (v : ℕ) → v < g.nodes → IsSmall (at_arc g.costs v)
  pub prices : (i : ℕ) → i < length g.ends → IsSmall (at_arc g.prices i)

-- how few and how many vertices a text may have, and how many edges, by what is asked
abbrev pub least_vertices : Task → ℕ
least_vertices Densest = 1
least_vertices Partitions = 2

abbrev pub most_vertices : Task → ℕ
most_vertices Densest = 500
most_vertices Partitions = 100

abbrev pub most_edges : Task → ℕ
most_edges Densest = 5000
most_edges Partitions = 500

pub record IsWithinTask (task : Task) (g : WeightedGraph) : Type 0 where
  pub limits : IsWithinLimits g
  pub some : least_vertices task ≤ g.nodes
  pub nodes : g.nodes ≤ most_vertices task
  pub edges : length g.ends ≤ most_edges task
