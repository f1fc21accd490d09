-- Partitions of the vertices, as lists with one label per vertex: two vertices are in one part where their labels are equal.
use Rattle.std.specs.Prelude.{◌≡◌, ℕ, ◌+◌, ◌<◌, ◌≤◌, ℤ, Bool, false, not, ◌||◌, if◌then◌else◌, List, [], ◌∷◌, length, map, take, slice_index_or, ◌==◌, nat_lt}
use Rattle.pf_model.specs.Cut.{sum_where}

-- the label of the vertex v
abbrev pub label : List ℕ → ℕ → ℕ
label labels v = slice_index_or labels v 0

-- the number stands in the list
abbrev pub occurs : ℕ → List ℕ → Bool
occurs a [] = false
occurs a (x ∷ labels) = (a == x) || occurs a labels

-- the number of parts: the number of different labels
abbrev pub parts : List ℕ → ℕ
parts [] = 0
parts (x ∷ labels) = (if occurs x labels then 0 else 1) + parts labels

-- the vertices with the label a
abbrev pub part : List ℕ → ℕ → List Bool
part labels a = map (λ x. x == a) labels

-- the ends of the edge are in different parts
abbrev pub crosses : List ℕ → ℕ × ℕ → Bool
crosses labels edge = not (label labels edge.0 == label labels edge.1)

-- the sum of the numbers beside the edges whose ends are in different parts
abbrev pub crossing : List (ℕ × ℕ) → List ℤ → List ℕ → ℤ
crossing ends numbers labels = sum_where (crosses labels) ends numbers

-- the number of these edges
abbrev pub crossing_edges : List (ℕ × ℕ) → List ℕ → ℕ
crossing_edges [] labels = 0
crossing_edges (edge ∷ ends) labels = (if crosses labels edge then 1 else 0) + crossing_edges ends labels

-- the greatest label
abbrev pub greatest_label : List ℕ → ℕ
greatest_label [] = 0
greatest_label (x ∷ labels) = if nat_lt (greatest_label labels) x then x else greatest_label labels

-- The label rule: the first label is 1, and each later one is from 1 to one more than the greatest before it. Such a list is a
-- restricted growth string.
pub record IsPartition (nodes : ℕ) (labels : List ℕ) : Type 0 where
  pub full : length labels ≡ nodes
  pub low : (v : ℕ) → v < nodes → 1 ≤ label labels v
  pub high : (v : ℕ) → v < nodes → label labels v ≤ greatest_label (take v labels) + 1

-- each part of the fine partition lies in one of the coarse one
pub record Refines (nodes : ℕ) (fine coarse : List ℕ) : Type 0 where
  pub joins : (u v : ℕ) → u < nodes → v < nodes → label fine u ≡ label fine v → label coarse u ≡ label coarse v

-- two vertices are in one part of the one exactly where they are in one part of the other
pub record IsSamePartition (nodes : ℕ) (first second : List ℕ) : Type 0 where
  pub to : Refines nodes first second
  pub back : Refines nodes second first

-- the list by the rule in which two vertices have one label exactly where their groups are equal
pub record IsPartitionOf (groups labels : List ℕ) : Type 0 where
  pub partition : IsPartition (length groups) labels
  pub same : IsSamePartition (length groups) groups labels
