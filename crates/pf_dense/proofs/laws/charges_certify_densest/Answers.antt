use Rattle.pf_dense.proofs.Soundness.{charges_certify}
use Rattle.pf_dense.proofs.laws.charges_certify_densest.Goals as goal

pub returns : goal.returns
returns c = charges_certify
