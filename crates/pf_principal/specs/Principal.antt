-- A principal partition with its certificate.
use Rattle.std.specs.Prelude.{◌≡◌, ℕ, ◌+◌, ◌*◌, ◌<◌, ◌≤◌, ℤ, pos, List, length, All}
use Rattle.pf_model.specs.Answer.{IsFractionShape}
use Rattle.pf_model.specs.Fraction.{Fraction, IsBelow}
use Rattle.pf_frame.specs.Lending.{row_at}
use Rattle.pf_frame.specs.Numbers.{IsSized}
use Rattle.pf_graph.specs.WeightedGraph.{WeightedGraph, digraph_of}
use Rattle.pf_graph.specs.Labels.{parts, IsPartition}
use Rattle.pf_graph.specs.Best.{crossing_of, level_at, partition_at}
use Rattle.pf_forest.specs.Forest.{MeetsForest}

-- The levels, one partition more, a vector for each level, and a split for each level and each vertex as a root, level after level.
-- Vector and splits of a level are in units of 1/q of it.
pub record PrincipalAnswer : Type 0 where
  pub levels : List Fraction
  pub partitions : List (List ℕ)
  pub vectors : List (List ℤ)
  pub splits : List (List ℤ)

-- the split of level j, counted from 0, for the root r
abbrev pub split_at : WeightedGraph → List (List ℤ) → ℕ → ℕ → List ℤ
split_at g splits j r = row_at splits (j * g.nodes + r)

-- its lists fit the graph: partitions by the label rule, and rows of one number per edge, each of a size below 2 ^ 104
pub record FitsGraph (g : WeightedGraph) (a : PrincipalAnswer) : Type 0 where
  pub count : length a.partitions ≡ length a.levels + 1
  pub partition : (j : ℕ) → j ≤ length a.levels → IsPartition g.nodes (partition_at a.partitions j)
  pub vector_rows : length a.vectors ≡ length a.levels
  pub vectors : (j : ℕ) → j < length a.levels → IsSized (digraph_of g) (row_at a.vectors j)
  pub split_rows : length a.splits ≡ length a.levels * g.nodes
  pub splits : (k : ℕ) → k < length a.splits → IsSized (digraph_of g) (row_at a.splits k)

-- its shape: levels in lowest terms within their widths, and lists that fit the graph
pub record IsPrincipalShape (g : WeightedGraph) (a : PrincipalAnswer) : Type 0 where
  pub levels : All IsFractionShape a.levels
  pub fits : FitsGraph g a

-- the forest condition at level j + 1, with partition i
abbrev pub MeetsLevel : WeightedGraph → PrincipalAnswer → ℕ → ℕ → Type 0
MeetsLevel g a j i = MeetsForest g (level_at a.levels (j + 1)) (row_at a.vectors j) (split_at g a.splits j) (partition_at a.partitions i)

-- The certificate: levels are above 0 and rise, numbers of parts rise, no weight crosses partition 0, the last partition has one
-- part per vertex, and at each level the forest condition holds with both neighbouring partitions.
pub record CertifiesPrincipal (g : WeightedGraph) (a : PrincipalAnswer) : Type 0 where
  pub rise : (j : ℕ) → j < length a.levels → IsBelow (level_at a.levels j) (level_at a.levels (j + 1))
  pub parts_rise : (j : ℕ) → j < length a.levels → parts (partition_at a.partitions j) < parts (partition_at a.partitions (j + 1))
  pub first : crossing_of g (partition_at a.partitions 0) ≡ pos 0
  pub last : parts (partition_at a.partitions (length a.levels)) ≡ g.nodes
  pub left : (j : ℕ) → j < length a.levels → MeetsLevel g a j j
  pub right : (j : ℕ) → j < length a.levels → MeetsLevel g a j (j + 1)
