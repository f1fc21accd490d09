use Rattle.pf_model.proofs.Unique.{smallest_unique, least_value_unique, least_size_unique}
use Rattle.pf_model.proofs.laws.flows.least_is_unique.Goals as goal

pub returns : goal.returns
returns c = record {
  cut = smallest_unique;
  value = least_value_unique;
  size = least_size_unique;
}
