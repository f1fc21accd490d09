use Rattle.pf_closure.proofs.LeastCuts.{cut_is_side, open_is_dear, least_is_closure}
use Rattle.pf_closure.proofs.laws.least_cuts_are_closures.Goals as goal

pub returns : goal.returns
returns c = record { side = cut_is_side; dear = open_is_dear; closure = least_is_closure }
