use Rattle.pf_model.proofs.Simple.{smallest_of_greatest, value_of_greatest}
use Rattle.pf_model.proofs.laws.flows.reach_is_smallest_least.Goals as goal

pub returns : goal.returns
returns c = record {
  smallest = smallest_of_greatest;
  meets = value_of_greatest;
}
