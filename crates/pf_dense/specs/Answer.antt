-- A densest set as an answer, and its shape, whatever it says.
use Rattle.std.specs.Prelude.{ℤ, Bool, List, length}
use Rattle.pf_model.specs.Fraction.{Fraction}
use Rattle.pf_ratio.specs.Answer.{Parts, IsAnswerShape}
use Rattle.pf_graph.specs.WeightedGraph.{WeightedGraph}

-- a density, a set of vertices, and beside each edge its charge to its first end
pub record DenseAnswer : Type 0 where
  pub density : Fraction
  pub chosen : List Bool
  pub charges : List ℤ

-- the answer of these parts, as its text has them one after the other
abbrev pub of_parts : Parts → DenseAnswer
of_parts parts = record { density = parts.0; chosen = parts.1.0; charges = parts.1.1 }

-- a fraction in lowest terms, one truth value per vertex, and one charge per edge, each of a size below 2^104
abbrev pub IsDenseShape : WeightedGraph → DenseAnswer → Type 0
IsDenseShape g answer = IsAnswerShape g.nodes (length g.ends) answer.density answer.chosen answer.charges
