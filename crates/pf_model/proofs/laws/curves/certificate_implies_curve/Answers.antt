use Rattle.pf_model.proofs.Certificate.{certified_is_curve}
use Rattle.pf_model.proofs.laws.curves.certificate_implies_curve.Goals as goal

pub returns : goal.returns
returns c = certified_is_curve
