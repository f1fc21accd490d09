use Rattle.pf_par.proofs.ParLaw.{accepted_is_monotone, accepted_is_text_network}
use Rattle.pf_par.proofs.laws.accepted_networks_are_monotone.Goals as goal

pub returns : goal.returns
returns c = record { monotone = accepted_is_monotone; bounds = accepted_is_text_network }
