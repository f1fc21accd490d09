use Rattle.pf_select.proofs.Soundness.{certificate_proves}
use Rattle.pf_select.proofs.laws.certificate_implies_best.Goals as goal

pub returns : goal.returns
returns c = certificate_proves
