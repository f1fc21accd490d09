-- A strength with its certificate.
use Rattle.std.specs.Prelude.{◌≡◌, ℕ, ◌<◌, ◌≤◌, ℤ, ◌-ℤ◌, ◌*ℤ◌, pos, List, length}
use Rattle.pf_model.specs.Answer.{IsFractionShape}
use Rattle.pf_model.specs.Fraction.{Fraction}
use Rattle.pf_frame.specs.Lending.{row_at}
use Rattle.pf_frame.specs.Numbers.{IsSized}
use Rattle.pf_graph.specs.WeightedGraph.{WeightedGraph, digraph_of}
use Rattle.pf_graph.specs.Labels.{parts, IsPartition}
use Rattle.pf_graph.specs.Best.{crossing_of}
use Rattle.pf_forest.specs.Forest.{MeetsForest}

-- The level, a partition, a vector, and a split for each vertex as a root. Vector and splits are in units of 1/q of the level.
pub record StrengthAnswer : Type 0 where
  pub level : Fraction
  pub parts : List ℕ
  pub vector : List ℤ
  pub splits : List (List ℤ)

-- the answer of these fields, as its text has them one after the other
abbrev pub of_fields : Fraction × (List ℕ × (List ℤ × List (List ℤ))) → StrengthAnswer
of_fields fields = record { level = fields.0; parts = fields.1.0; vector = fields.1.1.0; splits = fields.1.1.1 }

-- its lists fit the graph: one label per vertex, one number per edge, and one row of such numbers per vertex, each of a size below 2 ^ 104
pub record FitsGraph (g : WeightedGraph) (a : StrengthAnswer) : Type 0 where
  pub partition : IsPartition g.nodes a.parts
  pub vector : IsSized (digraph_of g) a.vector
  pub rows : length a.splits ≡ g.nodes
  pub splits : (r : ℕ) → r < g.nodes → IsSized (digraph_of g) (row_at a.splits r)

-- its shape: a level in lowest terms within its widths, and lists that fit the graph
pub record IsStrengthShape (g : WeightedGraph) (a : StrengthAnswer) : Type 0 where
  pub level : IsFractionShape a.level
  pub fits : FitsGraph g a

-- The certificate: the partition has at least two parts, its ratio is the level, and the forest condition holds with it.
pub record CertifiesStrength (g : WeightedGraph) (a : StrengthAnswer) : Type 0 where
  pub two : 2 ≤ parts a.parts
  pub ratio : a.level.q *ℤ crossing_of g a.parts ≡ a.level.p *ℤ (pos (parts a.parts) -ℤ pos 1)
  pub forest : MeetsForest g a.level a.vector (row_at a.splits) a.parts
