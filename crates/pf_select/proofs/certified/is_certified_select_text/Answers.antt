use Rattle.std.proofs.Common.{◌≡◌, ℕ, Bool, true, List, Result, Ok, Err}
use Rattle.std.specs.Prelude.{◌↔◌, IfOk}
use Rattle.pf_select.specs.Problem.{SelectionProblem, IsBoundedProblem}
use Rattle.pf_select.specs.Certificate.{ScheduleAnswer, CertifiesSchedule}
use Rattle.pf_select.specs.Text.{schedule_text}
use Rattle.pf_select.specs.Right.{IsScheduleShape, IsCertifiedSchedule}
use Rattle.pf_select.proofs.SameAnswers.{certified_text}
use Rattle.pf_select.proofs.certified.is_certified_select_text.Goals as goal

verdict : {E : Type 0} (p : SelectionProblem) (text : List ℕ) (answer : ScheduleAnswer) (r : Result Bool E) → IsBoundedProblem p → IsScheduleShape p answer →
    text ≡ schedule_text p answer → IfOk r (λ holds. (holds ≡ true) ↔ CertifiesSchedule p answer.prices answer.selections answer.charges) →
    IfOk r (λ holds. (holds ≡ true) ↔ IsCertifiedSchedule p text)
verdict p text answer (Ok holds) b shape text_is exact = certified_text p text answer holds b shape text_is exact
verdict p text answer (Err e) b shape text_is exact = tt

pub returns : goal.returns
returns c =
    verdict c.args.catalogue.now c.args.text.now c.in-Ok.answer c.is_certified_schedule.result c.parts.ensures.limits c.in-Ok.ensures.shape c.in-Ok.ensures.text
    c.is_certified_schedule.ensures
