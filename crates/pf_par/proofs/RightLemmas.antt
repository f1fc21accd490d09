-- Verdicts on texts of curves.
use Rattle.std.proofs.Common.{◌≡◌, ℕ, Bool, true, List, sym, subst, ◌∙◌}
use Rattle.std.specs.Prelude.{◌↔◌}
use Rattle.pf_model.specs.Network.{Network, IsMonotone}
use Rattle.pf_model.specs.Curve.{CertifiesCurve}
use Rattle.pf_model.specs.Answer.{Curve, IsCurveShape}
use Rattle.pf_model.proofs.Certificate.{certified_is_curve}
use Rattle.pf_text.proofs.VerdictLemmas.{one_right_text}
use Rattle.pf_par.specs.Answers.{curve_text}
use Rattle.pf_par.specs.Right.{IsRightCurve, IsCertifiedCurve, IsRightCheck}
use Rattle.pf_par.proofs.SameCurves.{same_curve}

abbrev Holds : Network → Curve → Type 0
Holds net curve = CertifiesCurve net curve.points curve.cuts curve.flows

-- the text is that of a curve of the right shape: it is certified where that curve is
pub certified_text : (net : Network) (text : List ℕ) (curve : Curve) (holds : Bool) → IsCurveShape net curve → text ≡ curve_text net curve
    → (holds ≡ true) ↔ CertifiesCurve net curve.points curve.cuts curve.flows → (holds ≡ true) ↔ IsCertifiedCurve net text
certified_text net text curve holds shape text_is exact = (
  λ yes'. record { curve = curve; shape = shape; certificate = exact.0 yes'; text_is = text_is },
  λ certified. exact.1 (subst (Holds net) (same_curve net certified.curve curve certified.shape shape (sym certified.text_is ∙ text_is)) certified.certificate),
)

-- there is one right verdict
pub one_verdict : (net : Network) (rest text other : List ℕ) → IsRightCheck net rest text → IsRightCheck net rest other → text ≡ other
one_verdict net rest text other a b = one_right_text text other a b

-- the certificate is all that a right answer to `curve` has
pub certified_is_right : (net : Network) (text : List ℕ) → IsMonotone net → IsCertifiedCurve net text ↔ IsRightCurve net text
certified_is_right net text m = (
  λ c. record {
    curve = c.curve;
    shape = c.shape;
    best = certified_is_curve net c.curve.points c.curve.cuts c.curve.flows m c.certificate;
    certificate = c.certificate;
    text_is = c.text_is;
  },
  λ r. record { curve = r.curve; shape = r.shape; certificate = r.certificate; text_is = r.text_is },
)
