-- Spanning trees without a common edge, and what forbids them (Tutte and Nash-Williams, 1961). Each edge of a graph counts once, whatever its numbers.
use Rattle.std.specs.Prelude.{◌≡◌, ℕ, ◌-◌, ◌*◌, ◌<◌, ◌≤◌, ℤ, pos, negsuc, ◌≤ℤ◌, Bool, true, false, ◌==◌, List, [], ◌∷◌, length}
use Rattle.pf_model.specs.Cut.{at_arc}
use Rattle.pf_model.specs.Digraph.{Digraph}
use Rattle.pf_graph.specs.Labels.{parts, crossing_edges, IsPartition}

-- these edges between n vertices
abbrev pub with_ends : ℕ → List (ℕ × ℕ) → Digraph
with_ends n ends = record { nodes = n; ends = ends }

-- n - 1 edges, of which one crosses each partition into at least two parts
pub record IsSpanningTree (n : ℕ) (edges : List (ℕ × ℕ)) : Type 0 where
  pub count : length edges ≡ n - 1
  pub crossed : (labels : List ℕ) → length labels ≡ n → 1 < parts labels → 0 < crossing_edges edges labels

-- the number is j
abbrev pub is_number : ℕ → ℤ → Bool
is_number j (pos x) = x == j
is_number j (negsuc x) = false

abbrev pub put_if : Bool → ℕ × ℕ → List (ℕ × ℕ) → List (ℕ × ℕ)
put_if true edge edges = edge ∷ edges
put_if false edge edges = edges

-- the edges beside which the number j stands
abbrev pub numbered : ℕ → List (ℕ × ℕ) → List ℤ → List (ℕ × ℕ)
numbered j [] numbers = []
numbered j (edge ∷ ends) [] = []
numbered j (edge ∷ ends) (x ∷ numbers) = put_if (is_number j x) edge (numbered j ends numbers)

-- beside each edge the number of its tree, from 1 to k, or 0 where it is in no tree; each tree spans
pub record AreTrees (g : Digraph) (k : ℕ) (numbers : List ℤ) : Type 0 where
  pub full : length numbers ≡ length g.ends
  pub low : (i : ℕ) → i < length g.ends → pos 0 ≤ℤ at_arc numbers i
  pub high : (i : ℕ) → i < length g.ends → at_arc numbers i ≤ℤ pos k
  pub trees : (j : ℕ) → 0 < j → j ≤ k → IsSpanningTree g.nodes (numbered j g.ends numbers)

-- a partition that fewer edges cross than k trees need
pub record Blocks (g : Digraph) (k : ℕ) (labels : List ℕ) : Type 0 where
  pub partition : IsPartition g.nodes labels
  pub fewer : crossing_edges g.ends labels < k * (parts labels - 1)

-- the same of groups of vertices, whatever the numbers of the groups
pub record HasFewEdges (g : Digraph) (k : ℕ) (groups : List ℕ) : Type 0 where
  pub full : length groups ≡ g.nodes
  pub fewer : crossing_edges g.ends groups < k * (parts groups - 1)
