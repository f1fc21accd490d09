-- What is refused of networks, and which texts are right answers.
use Rattle.std.specs.Prelude.{◌≡◌, ℕ, Bool, ◌||◌, List}
use Rattle.pf_model.specs.Fraction.{Fraction, is_below}
use Rattle.pf_model.specs.Network.{Network}
use Rattle.pf_model.specs.Curve.{IsPoint, IsCurve, CertifiesCurve}
use Rattle.pf_model.specs.Answer.{Point, Curve, IsPointShape, IsCurveShape}
use Rattle.pf_par.specs.Answers.{point_text, curve_text}
use Rattle.pf_text.specs.Verdict.{IsRightVerdict}

-- the parameter lies outside the network's interval
abbrev pub is_outside : Fraction → Network → Bool
is_outside x net = is_below x net.low || is_below net.high x

-- `at`: the smallest least cut at the parameter, and a flow whose value is its capacity
pub record IsRightPoint (x : Fraction) (net : Network) (text : List ℕ) : Type 0 where
  pub point : Point
  pub shape : IsPointShape net point
  pub parameter : point.at ≡ x
  pub best : IsPoint net point.at point.side point.flow
  pub text_is : text ≡ point_text net point

-- `curve`: the whole least-cut function, with flows that certify it
pub record IsRightCurve (net : Network) (text : List ℕ) : Type 0 where
  pub curve : Curve
  pub shape : IsCurveShape net curve
  pub best : IsCurve net curve.points curve.cuts
  pub certificate : CertifiesCurve net curve.points curve.cuts curve.flows
  pub text_is : text ≡ curve_text net curve

-- the text is that of a curve of the right shape whose certificate holds
pub record IsCertifiedCurve (net : Network) (text : List ℕ) : Type 0 where
  pub curve : Curve
  pub shape : IsCurveShape net curve
  pub certificate : CertifiesCurve net curve.points curve.cuts curve.flows
  pub text_is : text ≡ curve_text net curve

-- `check curve`: whether the text after the problem is that of a certified curve
abbrev pub IsRightCheck : Network → List ℕ → List ℕ → Type 0
IsRightCheck net rest text = IsRightVerdict (IsCertifiedCurve net rest) text
