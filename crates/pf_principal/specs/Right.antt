-- Which texts are right answers.
use Rattle.std.specs.Prelude.{◌≡◌, ℕ, List}
use Rattle.pf_graph.specs.WeightedGraph.{WeightedGraph}
use Rattle.pf_graph.specs.Best.{IsPrincipal}
use Rattle.pf_principal.specs.Principal.{PrincipalAnswer, IsPrincipalShape, CertifiesPrincipal}
use Rattle.pf_principal.specs.Text.{principal_text}

-- `partition`: the principal partition, with a certificate
pub record IsRightPrincipal (g : WeightedGraph) (text : List ℕ) : Type 0 where
  pub answer : PrincipalAnswer
  pub shape : IsPrincipalShape g answer
  pub principal : IsPrincipal g answer.levels answer.partitions
  pub certificate : CertifiesPrincipal g answer
  pub text_is : text ≡ principal_text g answer

-- `check partition`: the text is that of an answer of the right shape whose certificate holds
pub record IsCertifiedPrincipal (g : WeightedGraph) (text : List ℕ) : Type 0 where
  pub answer : PrincipalAnswer
  pub shape : IsPrincipalShape g answer
  pub certificate : CertifiesPrincipal g answer
  pub text_is : text ≡ principal_text g answer
