use Rattle.pf_strength.proofs.Certificate.{certificate_is_strength}
use Rattle.pf_strength.proofs.laws.certificate_is_strength.Goals as goal

pub returns : goal.returns
returns c = certificate_is_strength
