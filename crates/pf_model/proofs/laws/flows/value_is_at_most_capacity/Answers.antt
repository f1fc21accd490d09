use Rattle.pf_model.proofs.Duality.{value_most}
use Rattle.pf_model.proofs.laws.flows.value_is_at_most_capacity.Goals as goal

pub returns : goal.returns
returns c = value_most
