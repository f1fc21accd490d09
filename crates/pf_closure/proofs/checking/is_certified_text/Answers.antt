use Rattle.std.proofs.Common.{◌≡◌, ℕ, Bool, true, List, Result, Ok, Err}
use Rattle.std.specs.Prelude.{◌↔◌, IfOk}
use Rattle.pf_closure.specs.Problem.{ClosureProblem}
use Rattle.pf_closure.specs.Certificate.{RatioAnswer, CertifiesRatio}
use Rattle.pf_closure.specs.Text.{ratio_text}
use Rattle.pf_closure.specs.Right.{IsRatioShape, IsCertifiedRatio}
use Rattle.pf_closure.proofs.SameAnswers.{certified_text}
use Rattle.pf_closure.proofs.checking.is_certified_text.Goals as goal

verdict : {E : Type 0} (p : ClosureProblem) (text : List ℕ) (answer : RatioAnswer) (r : Result Bool E) → IsRatioShape p answer → text ≡ ratio_text answer
    → IfOk r (λ holds. (holds ≡ true) ↔ CertifiesRatio p answer.ratio answer.chosen answer.routing) → IfOk r (λ holds. (holds ≡ true) ↔ IsCertifiedRatio p text)
verdict p text answer (Ok holds) shape text_is exact = certified_text p text answer holds shape text_is exact
verdict p text answer (Err e) shape text_is exact = tt

pub returns : goal.returns
returns c =
    verdict c.args.items.now c.args.text.now c.in-Ok.answer c.is_certified.result c.in-Ok.ensures.shape c.in-Ok.ensures.spelled
    c.is_certified.ensures
