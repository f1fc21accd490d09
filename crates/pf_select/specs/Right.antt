-- Which answers have the right shape, and which texts are right answers.
use Rattle.std.specs.Prelude.{◌≡◌, ℕ, suc, ◌^◌, ℤ, List, length, All}
use Rattle.pf_model.specs.Answer.{IsFractionShape, IsWithinSize}
use Rattle.pf_select.specs.Problem.{SelectionProblem, IsBestSchedule}
use Rattle.pf_select.specs.Certificate.{ScheduleAnswer, CertifiesSchedule}
use Rattle.pf_select.specs.Text.{schedule_text}

-- for each need a number of a size below 2 ^ 104
pub record IsChargesShape (p : SelectionProblem) (charges : List ℤ) : Type 0 where
  pub full : length charges ≡ length p.needs
  pub each : All (IsWithinSize (2 ^ 104)) charges

-- prices in lowest terms, a selection more than prices, each with a truth value for each part, and charges for each price
pub record IsScheduleShape (p : SelectionProblem) (answer : ScheduleAnswer) : Type 0 where
  pub prices : All IsFractionShape answer.prices
  pub count : length answer.selections ≡ suc (length answer.prices)
  pub selections : All (λ set. length set ≡ length p.costs) answer.selections
  pub charges_count : length answer.charges ≡ length answer.prices
  pub charges : All (IsChargesShape p) answer.charges

-- `select`: the best schedule, with charges that certify it
pub record IsRightSchedule (p : SelectionProblem) (text : List ℕ) : Type 0 where
  pub answer : ScheduleAnswer
  pub shape : IsScheduleShape p answer
  pub best : IsBestSchedule p answer.prices answer.selections
  pub certificate : CertifiesSchedule p answer.prices answer.selections answer.charges
  pub text_is : text ≡ schedule_text p answer

-- `check select`: the text is that of a schedule of the right shape whose certificate holds
pub record IsCertifiedSchedule (p : SelectionProblem) (text : List ℕ) : Type 0 where
  pub answer : ScheduleAnswer
  pub shape : IsScheduleShape p answer
  pub certificate : CertifiesSchedule p answer.prices answer.selections answer.charges
  pub text_is : text ≡ schedule_text p answer
