-- A text is certified where the one answer that has it is.
use Rattle.std.proofs.Common.{◌≡◌, ℕ, Bool, true, List, Result, Ok, Err, sym, subst}
use Rattle.std.specs.Prelude.{◌↔◌, IfOk}
use Rattle.pf_share.specs.Problem.{ShareProblem, IsShareProblem}
use Rattle.pf_share.specs.Certificate.{SharesAnswer, CertifiesShares}
use Rattle.pf_share.specs.Text.{shares_text}
use Rattle.pf_share.specs.Right.{IsSharesShape, IsRightShares, IsCertifiedShares}
use Rattle.pf_share.proofs.Soundness.{certified_fair}

certified_text : (p : ShareProblem) (text : List ℕ) (answer : SharesAnswer) (holds : Bool) → IsSharesShape p answer → text ≡ shares_text p answer →
    ((other : SharesAnswer) → IsSharesShape p other → text ≡ shares_text p other → answer ≡ other) → ((holds ≡ true) ↔ CertifiesShares p answer) →
    (holds ≡ true) ↔ IsCertifiedShares p text
certified_text p text answer holds shape text_is only exact = (
  λ told. record { answer = answer; shape = shape; certificate = exact.0 told; text_is = text_is },
  λ c. exact.1 (subst (CertifiesShares p) (sym (only c.answer c.shape c.text_is)) c.certificate),
)

pub verdict : {E : Type 0} (p : ShareProblem) (text : List ℕ) (answer : SharesAnswer) (r : Result Bool E) → IsSharesShape p answer → text ≡ shares_text p answer →
    ((other : SharesAnswer) → IsSharesShape p other → text ≡ shares_text p other → answer ≡ other) → IfOk r (λ holds. (holds ≡ true) ↔ CertifiesShares p answer) →
    IfOk r (λ holds. (holds ≡ true) ↔ IsCertifiedShares p text)
verdict p text answer (Ok holds) shape text_is only exact = certified_text p text answer holds shape text_is only exact
verdict p text answer (Err e) shape text_is only exact = tt

pub certified_is_right : (p : ShareProblem) (text : List ℕ) → IsShareProblem p → IsCertifiedShares p text ↔ IsRightShares p text
certified_is_right p text problem = (
  λ c. record {
    answer = c.answer;
    shape = c.shape;
    best = certified_fair p c.answer problem c.certificate;
    certificate = c.certificate;
    text_is = c.text_is;
  },
  λ r. record { answer = r.answer; shape = r.shape; certificate = r.certificate; text_is = r.text_is },
)
