use Rattle.pf_reinforce.proofs.Certificate.{certificate_is_least}
use Rattle.pf_reinforce.proofs.laws.certificate_is_least.Goals as goal

pub returns : goal.returns
returns c = certificate_is_least
