use Rattle.pf_select.proofs.TextLaw.{accepted_is_bounded}
use Rattle.pf_select.proofs.laws.accepted_problems_are_bounded.Goals as goal

pub returns : goal.returns
returns c = accepted_is_bounded
