-- Which answers have the right shape, and which texts are right answers.
use Rattle.std.specs.Prelude.{◌≡◌, ℕ, List, length}
use Rattle.pf_ratio.specs.Answer.{IsAnswerShape}
use Rattle.pf_closure.specs.Problem.{ClosureProblem, IsLeastRatio}
use Rattle.pf_closure.specs.Certificate.{RatioAnswer, CertifiesRatio}
use Rattle.pf_closure.specs.Text.{ratio_text}

-- a fraction in lowest terms, a truth value for each item, and for each need a number of a size below 2 ^ 104
abbrev pub IsRatioShape : ClosureProblem → RatioAnswer → Type 0
IsRatioShape p answer = IsAnswerShape (length p.costs) (length p.needs) answer.ratio answer.chosen answer.routing

-- `closure`: the least ratio, with its greatest closure and numbers on the needs that certify both
pub record IsRightRatio (p : ClosureProblem) (text : List ℕ) : Type 0 where
  pub answer : RatioAnswer
  pub shape : IsRatioShape p answer
  pub best : IsLeastRatio p answer.ratio answer.chosen
  pub certificate : CertifiesRatio p answer.ratio answer.chosen answer.routing
  pub text_is : text ≡ ratio_text answer

-- `check closure`: the text is that of an answer of the right shape whose certificate holds
pub record IsCertifiedRatio (p : ClosureProblem) (text : List ℕ) : Type 0 where
  pub answer : RatioAnswer
  pub shape : IsRatioShape p answer
  pub certificate : CertifiesRatio p answer.ratio answer.chosen answer.routing
  pub text_is : text ≡ ratio_text answer
