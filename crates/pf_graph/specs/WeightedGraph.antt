-- Graphs whose edges have weights, and sets of their vertices.
use Rattle.std.specs.Prelude.{◌≡◌, ◌≢◌, ℕ, ◌<◌, ℤ, ◌+ℤ◌, ◌≤ℤ◌, pos, Bool, true, ◌&&◌, if◌then◌else◌, List, [], ◌∷◌, length, slice_index_or}
use Rattle.pf_model.specs.Cut.{sum_where, at_arc, has}
use Rattle.pf_model.specs.Digraph.{Digraph, IsDigraph}

-- Vertices are numbered from 0. An edge is the pair of its ends. Beside it stand its weight and its price; beside a vertex stands its cost.
pub record WeightedGraph : Type 0 where
  pub nodes : ℕ
  pub ends : List (ℕ × ℕ)
  pub weights : List ℤ
  pub costs : List ℤ
  pub prices : List ℤ

abbrev pub digraph_of : WeightedGraph → Digraph
digraph_of g = record { nodes = g.nodes; ends = g.ends }

-- there is a vertex, the two ends of each edge are different vertices, and no number is below 0
pub record IsWeightedGraph (g : WeightedGraph) : Type 0 where
  pub some : 0 < g.nodes
  pub graph : IsDigraph (digraph_of g)
  pub apart : (i : ℕ) → i < length g.ends → (slice_index_or g.ends i (0, 0)).0 ≢ (slice_index_or g.ends i (0, 0)).1
  pub weights_full : length g.weights ≡ length g.ends
  pub costs_full : length g.costs ≡ g.nodes
  pub prices_full : length g.prices ≡ length g.ends
  pub weights_low : (i : ℕ) → i < length g.ends → pos 0 ≤ℤ at_arc g.weights i
  pub costs_low : (v : ℕ) → v < g.nodes → pos 0 ≤ℤ at_arc g.costs v
  pub prices_low : (i : ℕ) → i < length g.ends → pos 0 ≤ℤ at_arc g.prices i

-- both ends are in the side
abbrev pub lies_in : List Bool → ℕ × ℕ → Bool
lies_in side edge = has side edge.0 && has side edge.1

-- the sum of the numbers beside the edges with both ends in the side
abbrev pub inside : List (ℕ × ℕ) → List ℤ → List Bool → ℤ
inside ends numbers side = sum_where (lies_in side) ends numbers

-- the sum of the numbers beside all edges
abbrev pub total : List (ℕ × ℕ) → List ℤ → ℤ
total ends numbers = sum_where (λ edge. true) ends numbers

-- the sum of the numbers beside the vertices of the side
abbrev pub cost_of : List ℤ → List Bool → ℤ
cost_of [] side = pos 0
cost_of (x ∷ costs) [] = pos 0
cost_of (x ∷ costs) (b ∷ side) = (if b then x else pos 0) +ℤ cost_of costs side
