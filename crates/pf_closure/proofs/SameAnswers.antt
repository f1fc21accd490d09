-- Answers of the right shape with equal texts are equal.
use Rattle.std.proofs.Common.{◌≡◌, ℕ, List, length, Bool, true, refl, sym, ◌∙◌, subst}
use Rattle.std.specs.Prelude.{◌↔◌, codes}
use Rattle.pf_format.proofs.Formats.{IsMadeOf, made_one, same_value}
use Rattle.pf_ratio.specs.Answer.{Parts, parts_text, HaveShape}
use Rattle.pf_ratio.proofs.SameAnswers.{one_text}
use Rattle.pf_closure.specs.Problem.{ClosureProblem, IsClosureProblem}
use Rattle.pf_closure.specs.Certificate.{RatioAnswer, CertifiesRatio, of_parts}
use Rattle.pf_closure.specs.Text.{ratio_text}
use Rattle.pf_closure.specs.Right.{IsRatioShape, IsRightRatio, IsCertifiedRatio}
use Rattle.pf_closure.proofs.Soundness.{certificate_proves}

abbrev pub parts_of : RatioAnswer → Parts
parts_of answer = (answer.ratio, (answer.chosen, answer.routing))

pub made : (p : ClosureProblem) (count width : ℕ) → count ≡ length p.costs → width ≡ length p.needs → IsMadeOf ratio_text (IsRatioShape p) (parts_text (codes "closure") (codes "r")) (HaveShape count width) of_parts parts_of
unfolding ratio_text
made p count width n m = rw (n, m) (record { same = λ parts. refl; shape = λ parts fits. fits; back = λ parts shape. shape; there = λ answer. refl })

pub one_answer : (p : ClosureProblem) (a b : RatioAnswer) → IsRatioShape p a → IsRatioShape p b → ratio_text a ≡ ratio_text b → a ≡ b
one_answer p =
    let one = one_text (codes "closure") (codes "r") (length p.costs) (length p.needs) in
    same_value ratio_text (IsRatioShape p) (made_one ratio_text (IsRatioShape p) (parts_text (codes "closure") (codes "r")) (HaveShape (length p.costs) (length p.needs)) of_parts parts_of (made p (length p.costs) (length p.needs) refl refl) one)

-- ---- certified texts

abbrev Holds : ClosureProblem → RatioAnswer → Type 0
Holds p answer = CertifiesRatio p answer.ratio answer.chosen answer.routing

-- the text is that of an answer of the right shape: it is certified where that answer is
pub certified_text : (p : ClosureProblem) (text : List ℕ) (answer : RatioAnswer) (holds : Bool) → IsRatioShape p answer → text ≡ ratio_text answer
    → ((holds ≡ true) ↔ CertifiesRatio p answer.ratio answer.chosen answer.routing) → (holds ≡ true) ↔ IsCertifiedRatio p text
certified_text p text answer holds shape text_is exact = (
  λ told. record { answer = answer; shape = shape; certificate = exact.0 told; text_is = text_is },
  λ c. exact.1 (subst (Holds p) (one_answer p c.answer answer c.shape shape (sym c.text_is ∙ text_is)) c.certificate),
)

pub certified_is_right : (p : ClosureProblem) (text : List ℕ) → IsClosureProblem p → IsCertifiedRatio p text ↔ IsRightRatio p text
certified_is_right p text problem = (
  λ c. record {
    answer = c.answer;
    shape = c.shape;
    best = certificate_proves p c.answer.ratio c.answer.chosen c.answer.routing problem c.certificate;
    certificate = c.certificate;
    text_is = c.text_is;
  },
  λ r. record { answer = r.answer; shape = r.shape; certificate = r.certificate; text_is = r.text_is },
)
