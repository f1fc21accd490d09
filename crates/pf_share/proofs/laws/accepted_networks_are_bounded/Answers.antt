use Rattle.pf_share.proofs.TextLaw.{accepted_is_bounded}
use Rattle.pf_share.proofs.laws.accepted_networks_are_bounded.Goals as goal

pub returns : goal.returns
returns c = accepted_is_bounded
