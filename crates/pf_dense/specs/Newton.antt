-- Newton's iteration on the density.
use Rattle.std.specs.Prelude.{◌≡◌, ℤ, ◌-ℤ◌, ◌*ℤ◌, ◌≤ℤ◌, ◌<ℤ◌, pos, Bool, List, length}
use Rattle.pf_model.specs.Fraction.{Fraction, IsParameter}
use Rattle.pf_model.specs.Cut.{IsContained}
use Rattle.pf_graph.specs.WeightedGraph.{WeightedGraph}
use Rattle.pf_dense.specs.Densest.{weight_inside, cost_within, HasDensity, IsVertexSet}

-- what a set lacks to the density p/q, in units of 1/q
abbrev pub deficit : WeightedGraph → Fraction → List Bool → ℤ
deficit g x set = (x.p *ℤ cost_within g set) -ℤ (x.q *ℤ weight_inside g set)

-- the greatest of the sets that lack the least
pub record IsStep (g : WeightedGraph) (x : Fraction) (set : List Bool) : Type 0 where
  pub full : length set ≡ g.nodes
  pub least : (other : List Bool) → length other ≡ g.nodes → deficit g x set ≤ℤ deficit g x other
  pub greatest : (other : List Bool) → length other ≡ g.nodes → deficit g x other ≡ deficit g x set → IsContained other set

-- a set of this density, such that each denser one costs less
pub record IsNewton (g : WeightedGraph) (x : Fraction) (set : List Bool) : Type 0 where
  pub parameter : IsParameter x
  pub vertices : IsVertexSet g set
  pub density : HasDensity g x set
  pub fewer : (other : List Bool) → IsVertexSet g other → deficit g x other <ℤ pos 0 → cost_within g other <ℤ cost_within g set
