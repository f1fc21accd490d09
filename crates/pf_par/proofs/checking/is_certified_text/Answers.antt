use Rattle.std.proofs.Common.{◌≡◌, ℕ, Bool, true, List, Result, Ok, Err}
use Rattle.std.specs.Prelude.{◌↔◌, IfOk}
use Rattle.pf_model.specs.Network.{Network}
use Rattle.pf_model.specs.Curve.{CertifiesCurve}
use Rattle.pf_model.specs.Answer.{Curve, IsCurveShape}
use Rattle.pf_par.specs.Answers.{curve_text}
use Rattle.pf_par.specs.Right.{IsCertifiedCurve}
use Rattle.pf_par.proofs.RightLemmas.{certified_text}
use Rattle.pf_par.proofs.checking.is_certified_text.Goals as goal

verdict : {E : Type 0} (net : Network) (text : List ℕ) (whole : Curve) (r : Result Bool E) → IsCurveShape net whole → text ≡ curve_text net whole
    → IfOk r (λ holds. (holds ≡ true) ↔ CertifiesCurve net whole.points whole.cuts whole.flows) → IfOk r (λ holds. (holds ≡ true) ↔ IsCertifiedCurve net text)
verdict net text whole (Ok holds) shape text_is exact = certified_text net text whole holds shape text_is exact
verdict net text whole (Err e) shape text_is exact = tt

pub returns : goal.returns
returns c = verdict c.args.net.now c.args.text.now c.in-Ok.whole c.is_certified.result c.in-Ok.ensures.shape c.in-Ok.ensures.text c.is_certified.ensures
