-- Densest sets of vertices: the weight of the edges inside over the cost of the vertices.
use Rattle.std.specs.Prelude.{◌≡◌, ℕ, ◌<◌, ℤ, ◌*ℤ◌, ◌≤ℤ◌, pos, Bool, true, List, length}
use Rattle.pf_model.specs.Fraction.{Fraction, IsParameter}
use Rattle.pf_model.specs.Cut.{has, at_arc, IsContained}
use Rattle.pf_graph.specs.WeightedGraph.{WeightedGraph, inside, cost_of}

-- a set of vertices has one truth value per vertex; the weight of the edges with both ends in it, and the cost of its vertices
abbrev pub weight_inside : WeightedGraph → List Bool → ℤ
weight_inside g set = inside g.ends g.weights set

abbrev pub cost_within : WeightedGraph → List Bool → ℤ
cost_within g set = cost_of g.costs set

-- each vertex costs something
pub record HasPositiveCosts (g : WeightedGraph) : Type 0 where
  pub low : (v : ℕ) → v < g.nodes → pos 1 ≤ℤ at_arc g.costs v

-- a set that holds a vertex
pub record IsNonempty (set : List Bool) : Type 0 where
  pub vertex : ℕ
  pub held : has set vertex ≡ true

pub record IsVertexSet (g : WeightedGraph) (set : List Bool) : Type 0 where
  pub full : length set ≡ g.nodes
  pub some : IsNonempty set

-- the set has the density p/q
abbrev pub HasDensity : WeightedGraph → Fraction → List Bool → Type 0
HasDensity g x set = x.q *ℤ weight_inside g set ≡ x.p *ℤ cost_within g set

-- The greatest density of a nonempty set, which is Goldberg's where every cost is 1, and the set of that density which contains all others.
pub record IsDensest (g : WeightedGraph) (x : Fraction) (set : List Bool) : Type 0 where
  pub parameter : IsParameter x
  pub vertices : IsVertexSet g set
  pub density : HasDensity g x set
  pub greatest : (other : List Bool) → IsVertexSet g other → (x.q *ℤ weight_inside g other) ≤ℤ (x.p *ℤ cost_within g other)
  pub holds : (other : List Bool) → IsVertexSet g other → HasDensity g x other → IsContained other set
