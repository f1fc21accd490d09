-- Layers of a graph: in each the greatest density beside those before it.
use Rattle.std.specs.Prelude.{◌≡◌, ℕ, ◌+◌, ◌<◌, ℤ, ◌-ℤ◌, ◌*ℤ◌, ◌≤ℤ◌, Bool, List, length}
use Rattle.pf_model.specs.Fraction.{Fraction, IsBelow}
use Rattle.pf_model.specs.Cut.{IsContained, union}
use Rattle.pf_graph.specs.WeightedGraph.{WeightedGraph}
use Rattle.pf_dense.specs.Densest.{weight_inside, cost_within, IsVertexSet}
use Rattle.pf_layers.specs.Layers.{level_at, IsApart, AreLayers}

-- what a set brings beside the taken vertices: the weight of the edges inside it and between it and them
abbrev pub gain : WeightedGraph → List Bool → List Bool → ℤ
gain g taken set = weight_inside g (union taken set) -ℤ weight_inside g taken

-- the set brings p/q for its cost
abbrev pub Brings : WeightedGraph → List Bool → Fraction → List Bool → Type 0
Brings g taken x set = x.q *ℤ gain g taken set ≡ x.p *ℤ cost_within g set

-- The greatest p/q that a nonempty set outside the taken vertices brings for its cost, and the set that brings it and contains all others
-- that do.
pub record IsDensestBeside (g : WeightedGraph) (taken : List Bool) (x : Fraction) (set : List Bool) : Type 0 where
  pub vertices : IsVertexSet g set
  pub density : Brings g taken x set
  pub greatest : (other : List Bool) → IsVertexSet g other → IsApart taken other → (x.q *ℤ gain g taken other) ≤ℤ (x.p *ℤ cost_within g other)
  pub holds : (other : List Bool) → IsVertexSet g other → IsApart taken other → Brings g taken x other → IsContained other set

-- the levels fall strictly
pub record IsDenseLayers (g : WeightedGraph) (levels : List Fraction) (layers : List ℤ) : Type 0 where
  pub layers_are : AreLayers g.nodes (IsDensestBeside g) levels layers
  pub fall : (j : ℕ) → j + 1 < length levels → IsBelow (level_at levels (j + 1)) (level_at levels j)
