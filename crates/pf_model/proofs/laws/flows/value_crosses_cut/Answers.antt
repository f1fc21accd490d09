use Rattle.pf_model.proofs.Balance.{value_across}
use Rattle.pf_model.proofs.laws.flows.value_crosses_cut.Goals as goal

pub returns : goal.returns
returns c = value_across
