-- Which texts are right answers.
use Rattle.std.specs.Prelude.{◌≡◌, ℕ, List}
use Rattle.pf_graph.specs.WeightedGraph.{WeightedGraph}
use Rattle.pf_graph.specs.Best.{IsStrength}
use Rattle.pf_strength.specs.Strength.{StrengthAnswer, IsStrengthShape, CertifiesStrength}
use Rattle.pf_strength.specs.Text.{strength_text}

-- `strength`: the least ratio of a partition into at least two parts, with one that attains it and a certificate
pub record IsRightStrength (g : WeightedGraph) (text : List ℕ) : Type 0 where
  pub answer : StrengthAnswer
  pub shape : IsStrengthShape g answer
  pub best : IsStrength g answer.level answer.parts
  pub certificate : CertifiesStrength g answer
  pub text_is : text ≡ strength_text answer

-- `check strength`: the text is that of an answer of the right shape whose certificate holds
pub record IsCertifiedStrength (g : WeightedGraph) (text : List ℕ) : Type 0 where
  pub answer : StrengthAnswer
  pub shape : IsStrengthShape g answer
  pub certificate : CertifiesStrength g answer
  pub text_is : text ≡ strength_text answer
