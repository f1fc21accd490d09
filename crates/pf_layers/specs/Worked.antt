-- Layers worked by hand.
use Rattle.std.specs.Prelude.{◌≡◌, ℕ, ℤ, pos, List, [], ◌∷◌}
use Rattle.pf_model.specs.Fraction.{Fraction}
use Rattle.pf_graph.specs.WeightedGraph.{WeightedGraph}
use Rattle.pf_dense.specs.Densest.{cost_within}
use Rattle.pf_dense.specs.Worked.{fraction, no_edges}
use Rattle.pf_closure.specs.Problem.{cost_of, weight_of}
use Rattle.pf_closure.specs.Worked.{two_items}
use Rattle.pf_layers.specs.Layers.{before, layer}
use Rattle.pf_layers.specs.DenseLayers.{gain, IsDenseLayers}

-- three edges in a row, of which the first is heavy, and a vertex apart
abbrev pub three_edges : WeightedGraph
three_edges = record {
  nodes = 5;
  ends = (0, 1) ∷ ((1, 2) ∷ ((2, 3) ∷ []));
  weights = pos 3 ∷ (pos 1 ∷ (pos 1 ∷ []));
  costs = pos 1 ∷ (pos 1 ∷ (pos 1 ∷ (pos 1 ∷ (pos 1 ∷ []))));
  prices = pos 1 ∷ (pos 1 ∷ (pos 1 ∷ []));
}

abbrev pub edge_layers : List ℤ
edge_layers = pos 1 ∷ (pos 1 ∷ (pos 2 ∷ (pos 2 ∷ (pos 3 ∷ []))))

abbrev pub three_levels : Fraction → Fraction → Fraction → List Fraction
three_levels a b c = a ∷ (b ∷ (c ∷ []))

-- what each layer brings beside those before it, and what it costs
pub record EdgesNumbers : Type 0 where
  pub first : gain three_edges (before edge_layers 1) (layer edge_layers 1) ≡ pos 3
  pub first_cost : cost_within three_edges (layer edge_layers 1) ≡ pos 2
  pub second : gain three_edges (before edge_layers 2) (layer edge_layers 2) ≡ pos 2
  pub second_cost : cost_within three_edges (layer edge_layers 2) ≡ pos 2
  pub last : gain three_edges (before edge_layers 3) (layer edge_layers 3) ≡ pos 0
  pub last_cost : cost_within three_edges (layer edge_layers 3) ≡ pos 1

-- the densest set of what is left, without the edges to what was taken, is no layer
abbrev pub EdgesForgotten : Type 0
EdgesForgotten = IsDenseLayers three_edges (three_levels (fraction 3 2) (fraction 1 2) (fraction 0 1)) edge_layers → ⊥

-- without edges all vertices are one layer
abbrev pub BareLayers : Type 0
BareLayers = IsDenseLayers no_edges (fraction 0 1 ∷ []) (pos 1 ∷ (pos 1 ∷ (pos 1 ∷ [])))

abbrev pub two_layers : ℕ → ℕ → List ℤ
two_layers a b = pos a ∷ (pos b ∷ [])

-- the first item is dear, so the second comes before it; or it is cheap and takes the second with it
pub record ItemNumbers : Type 0 where
  pub first_cost : cost_of (two_items 3 1 1 1) (layer (two_layers 2 1) 1) ≡ pos 1
  pub first_weight : weight_of (two_items 3 1 1 1) (layer (two_layers 2 1) 1) ≡ pos 1
  pub second_cost : cost_of (two_items 3 1 1 1) (layer (two_layers 2 1) 2) ≡ pos 3
  pub second_weight : weight_of (two_items 3 1 1 1) (layer (two_layers 2 1) 2) ≡ pos 1
  pub whole_cost : cost_of (two_items 1 3 5 1) (layer (two_layers 1 1) 1) ≡ pos 6
  pub whole_weight : weight_of (two_items 1 3 5 1) (layer (two_layers 1 1) 1) ≡ pos 4
