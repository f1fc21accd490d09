-- The parametric network of a graph. Node 0 is the source, node v + 1 stands for vertex v, the last node is the sink.
use Rattle.std.specs.Prelude.{◌≡◌, ℕ, suc, ℤ, ◌+ℤ◌, ◌-ℤ◌, ◌*ℤ◌, pos, Bool, true, false, not, List, [], ◌∷◌, ◌++◌, map, take}
use Rattle.pf_model.specs.declared.AffineArc.{AffineArc}
use Rattle.pf_model.specs.declared.Sense.TheVariants.{Rising}
use Rattle.pf_model.specs.Flow.{sum_out, sum_in}
use Rattle.pf_model.specs.Network.{Network, IsNetworkCut, cut_a, cut_b}
use Rattle.pf_graph.specs.WeightedGraph.{WeightedGraph, total}
use Rattle.pf_dense.specs.Densest.{weight_inside, cost_within}

-- the weight of all edges, and of those at a vertex
abbrev pub total_weight : WeightedGraph → ℤ
total_weight g = total g.ends g.weights

abbrev pub weight_at : WeightedGraph → ℕ → ℤ
weight_at g v = sum_out g.ends g.weights v +ℤ sum_in g.ends g.weights v

abbrev pub source_arc : ℕ → ℤ → ℤ → AffineArc
source_arc v rest cost = record { tail = 0; head = suc v; a = rest; b = pos 2 *ℤ cost }

abbrev pub sink_arc : ℕ → ℕ → ℤ → AffineArc
sink_arc sink v whole = record { tail = suc v; head = sink; a = whole; b = pos 0 }

abbrev pub edge_arc : ℕ → ℕ → ℤ → AffineArc
edge_arc u v weight = record { tail = suc u; head = suc v; a = weight; b = pos 0 }

-- for each vertex, of which the first has the number v, an arc from the source and an arc to the sink
abbrev pub vertex_arcs : WeightedGraph → ℕ → ℕ → List ℤ → List AffineArc
vertex_arcs g sink v [] = []
vertex_arcs g sink v (cost ∷ costs) =
    source_arc v (total_weight g -ℤ weight_at g v) cost ∷ (sink_arc sink v (total_weight g) ∷ vertex_arcs g sink (suc v) costs)

-- for each edge an arc either way
abbrev pub edge_arcs : List (ℕ × ℕ) → List ℤ → List AffineArc
edge_arcs [] weights = []
edge_arcs (edge ∷ ends) [] = []
edge_arcs (edge ∷ ends) (weight ∷ weights) =
    edge_arc edge.0 edge.1 weight ∷ (edge_arc edge.1 edge.0 weight ∷ edge_arcs ends weights)

abbrev pub sink_node : WeightedGraph → ℕ
sink_node g = suc g.nodes

abbrev pub dense_net : WeightedGraph → Network
dense_net g = record {
  nodes = suc (sink_node g);
  source = 0;
  sink = sink_node g;
  sense = Rising;
  low = record { p = pos 0; q = pos 1 };
  high = record { p = total_weight g +ℤ pos 1; q = pos 1 };
  arcs = vertex_arcs g (sink_node g) 0 g.costs ++ edge_arcs g.ends g.weights;
}

-- the side outside which just the vertices of a set lie; and the vertices outside a side
abbrev pub side_of : List Bool → List Bool
side_of set = true ∷ (map not set ++ (false ∷ []))

abbrev pub behind_first : List Bool → List Bool
behind_first [] = []
behind_first (b ∷ side) = side

abbrev pub outside_of : WeightedGraph → List Bool → List Bool
outside_of g side = map not (take g.nodes (behind_first side))

-- that side is a cut; with T the weight of all edges, A is T for each vertex less twice the weight inside the set, and B is twice its cost
pub record IsDenseLine (g : WeightedGraph) (set : List Bool) : Type 0 where
  pub cut : IsNetworkCut (dense_net g) (side_of set)
  pub constant : cut_a (dense_net g) (side_of set) ≡ (pos g.nodes *ℤ total_weight g) -ℤ (pos 2 *ℤ weight_inside g set)
  pub slope : cut_b (dense_net g) (side_of set) ≡ pos 2 *ℤ cost_within g set
