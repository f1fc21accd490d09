use Rattle.pf_dense.proofs.Soundness.{certificate_proves}
use Rattle.pf_dense.proofs.laws.certificate_implies_densest.Goals as goal

pub returns : goal.returns
returns c = certificate_proves
