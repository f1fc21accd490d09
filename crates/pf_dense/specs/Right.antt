-- Which texts are right answers.
use Rattle.std.specs.Prelude.{◌≡◌, ℕ, List}
use Rattle.pf_graph.specs.WeightedGraph.{WeightedGraph}
use Rattle.pf_dense.specs.Densest.{IsDensest}
use Rattle.pf_dense.specs.Certificate.{CertifiesDense}
use Rattle.pf_dense.specs.Answer.{DenseAnswer, IsDenseShape}
use Rattle.pf_dense.specs.Text.{dense_text}

-- `densest`: the greatest density, with its greatest set and charges that certify both
pub record IsRightDense (g : WeightedGraph) (text : List ℕ) : Type 0 where
  pub answer : DenseAnswer
  pub shape : IsDenseShape g answer
  pub best : IsDensest g answer.density answer.chosen
  pub certificate : CertifiesDense g answer.density answer.chosen answer.charges
  pub text_is : text ≡ dense_text answer

-- `check densest`: the text is that of an answer of the right shape whose certificate holds
pub record IsCertifiedDense (g : WeightedGraph) (text : List ℕ) : Type 0 where
  pub answer : DenseAnswer
  pub shape : IsDenseShape g answer
  pub certificate : CertifiesDense g answer.density answer.chosen answer.charges
  pub text_is : text ≡ dense_text answer
