use Rattle.pf_closure.proofs.TextLaw.{accepted_is_bounded}
use Rattle.pf_closure.proofs.laws.accepted_items_are_bounded.Goals as goal

pub returns : goal.returns
returns c = accepted_is_bounded
