-- Answers of the right shape with equal texts are equal, so a text is certified where its one answer is.
use Rattle.std.proofs.Common.{◌≡◌, ℕ, List, true, sym, subst, ◌∙◌}
use Rattle.std.specs.Prelude.{◌↔◌, Bool}
use Rattle.pf_format.proofs.Formats.{same_value}
use Rattle.pf_graph.specs.WeightedGraph.{WeightedGraph}
use Rattle.pf_graph.specs.Limits.{IsWithinLimits}
use Rattle.pf_strength.specs.Strength.{StrengthAnswer, IsStrengthShape, CertifiesStrength}
use Rattle.pf_strength.specs.Text.{strength_text}
use Rattle.pf_strength.specs.Right.{IsRightStrength, IsCertifiedStrength}
use Rattle.pf_strength.proofs.Certificate.{certificate_is_strength}
use Rattle.pf_strength.proofs.TextLemmas.{one_text}

pub one_answer : (g : WeightedGraph) (a b : StrengthAnswer) → IsWithinLimits g → IsStrengthShape g a → IsStrengthShape g b → strength_text a ≡ strength_text b → a ≡ b
one_answer g a b limits sa sb e =
    same_value strength_text (IsStrengthShape g) (one_text g limits) a b sa sb e

-- ---- certified texts

-- the text is that of an answer of the right shape: it is certified where that answer is
pub certified_text : (g : WeightedGraph) (text : List ℕ) (answer : StrengthAnswer) (holds : Bool) → IsWithinLimits g → IsStrengthShape g answer → text ≡ strength_text answer
    → ((holds ≡ true) ↔ CertifiesStrength g answer) → (holds ≡ true) ↔ IsCertifiedStrength g text
certified_text g text answer holds limits shape text_is exact = (
  λ told. record { answer = answer; shape = shape; certificate = exact.0 told; text_is = text_is },
  λ c. exact.1 (subst (CertifiesStrength g) (one_answer g c.answer answer limits c.shape shape (sym c.text_is ∙ text_is)) c.certificate),
)

pub certified_is_right : (g : WeightedGraph) (text : List ℕ) → IsWithinLimits g → IsCertifiedStrength g text ↔ IsRightStrength g text
certified_is_right g text limits = (
  λ c. record {
    answer = c.answer;
    shape = c.shape;
    best = certificate_is_strength g c.answer limits.graph c.shape.fits.partition c.certificate;
    certificate = c.certificate;
    text_is = c.text_is;
  },
  λ r. record { answer = r.answer; shape = r.shape; certificate = r.certificate; text_is = r.text_is },
)
