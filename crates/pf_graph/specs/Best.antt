-- Best partitions at a level, strength, and the principal partition.
use Rattle.std.specs.Prelude.{◌≡◌, ℕ, ◌+◌, ◌<◌, ◌≤◌, ℤ, ◌-ℤ◌, ◌*ℤ◌, ◌≤ℤ◌, pos, List, [], ◌∷◌, length, slice_index_or}
use Rattle.pf_model.specs.Fraction.{Fraction, IsParameter, IsBelow, IsAtMost}
use Rattle.pf_model.specs.Line.{AffineLine, value_at}
use Rattle.pf_graph.specs.WeightedGraph.{WeightedGraph}
use Rattle.pf_graph.specs.Labels.{parts, crossing, IsPartition, Refines}

-- the weight of the edges that cross the partition
abbrev pub crossing_of : WeightedGraph → List ℕ → ℤ
crossing_of g labels = crossing g.ends g.weights labels

-- crossing - l (parts - 1), as a line over the level l
abbrev pub partition_line : WeightedGraph → List ℕ → AffineLine
partition_line g labels = record { a = crossing_of g labels; b = pos 1 -ℤ pos (parts labels) }

-- its value at the level p/q, in units of 1/q
abbrev pub partition_value : WeightedGraph → List ℕ → Fraction → ℤ
partition_value g labels x = value_at (partition_line g labels) x

-- best at a level: no list of labels has a smaller value there
pub record IsBest (g : WeightedGraph) (x : Fraction) (labels : List ℕ) : Type 0 where
  pub full : length labels ≡ g.nodes
  pub least : (other : List ℕ) → length other ≡ g.nodes → partition_value g labels x ≤ℤ partition_value g other x

-- Strength, Cunningham's ratio: the least of crossing / (parts - 1) over all partitions into at least two parts, and one that attains it.
pub record IsStrength (g : WeightedGraph) (x : Fraction) (labels : List ℕ) : Type 0 where
  pub partition : IsPartition g.nodes labels
  pub parameter : IsParameter x
  pub two : 2 ≤ parts labels
  pub attained : x.q *ℤ crossing_of g labels ≡ x.p *ℤ (pos (parts labels) -ℤ pos 1)
  pub least : (other : List ℕ) → length other ≡ g.nodes → 2 ≤ parts other →
      (x.p *ℤ (pos (parts other) -ℤ pos 1)) ≤ℤ (x.q *ℤ crossing_of g other)

-- levels are numbered from 1, and level 0 is 0
abbrev pub level_zero : Fraction
level_zero = record { p = pos 0; q = pos 1 }

abbrev pub level_at : List Fraction → ℕ → Fraction
level_at levels j = slice_index_or (level_zero ∷ levels) j level_zero

-- partitions are numbered from 0
abbrev pub partition_at : List (List ℕ) → ℕ → List ℕ
partition_at partitions j = slice_index_or partitions j []

-- the piece of partition j: from level j to level j + 1, and from the last level on
pub record IsInPiece (levels : List Fraction) (j : ℕ) (x : Fraction) : Type 0 where
  pub parameter : IsParameter x
  pub from : IsAtMost (level_at levels j) x
  pub to : j < length levels → IsAtMost x (level_at levels (j + 1))

-- strictly inside it
pub record IsWithinPiece (levels : List Fraction) (j : ℕ) (x : Fraction) : Type 0 where
  pub parameter : IsParameter x
  pub from : IsBelow (level_at levels j) x
  pub to : j < length levels → IsBelow x (level_at levels (j + 1))

-- the levels are above 0 and rise strictly, and there is one partition more
pub record IsLevels (nodes : ℕ) (levels : List Fraction) (partitions : List (List ℕ)) : Type 0 where
  pub count : length partitions ≡ length levels + 1
  pub parameters : (j : ℕ) → j ≤ length levels → IsParameter (level_at levels j)
  pub rise : (j : ℕ) → j < length levels → IsBelow (level_at levels j) (level_at levels (j + 1))
  pub partition : (j : ℕ) → j ≤ length levels → IsPartition nodes (partition_at partitions j)

-- The principal partition: each partition is best throughout its piece, and strictly inside it is the only best one.
-- The partitions become finer, from part to part, up to single vertices.
pub record IsPrincipal (g : WeightedGraph) (levels : List Fraction) (partitions : List (List ℕ)) : Type 0 where
  pub levels_are : IsLevels g.nodes levels partitions
  pub best : (j : ℕ) (x : Fraction) → j ≤ length levels → IsInPiece levels j x → IsBest g x (partition_at partitions j)
  pub only : (j : ℕ) (x : Fraction) (other : List ℕ) → j ≤ length levels → IsWithinPiece levels j x →
      IsPartition g.nodes other → IsBest g x other → other ≡ partition_at partitions j
  pub parts_rise : (j : ℕ) → j < length levels → parts (partition_at partitions j) < parts (partition_at partitions (j + 1))
  pub refines : (j : ℕ) → j < length levels → Refines g.nodes (partition_at partitions (j + 1)) (partition_at partitions j)
  pub last : parts (partition_at partitions (length levels)) ≡ g.nodes
