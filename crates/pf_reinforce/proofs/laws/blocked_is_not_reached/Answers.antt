use Rattle.pf_reinforce.proofs.Certificate.{blocked_is_not_reached}
use Rattle.pf_reinforce.proofs.laws.blocked_is_not_reached.Goals as goal

pub returns : goal.returns
returns c = blocked_is_not_reached
