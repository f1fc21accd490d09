use Rattle.pf_model.proofs.Duality.{greatest_from_meeting, least_from_meeting}
use Rattle.pf_model.proofs.Exists.{value_meets_exactly}
use Rattle.pf_model.proofs.laws.flows.value_meets_capacity.Goals as goal

pub returns : goal.returns
returns c = record {
  exactly = value_meets_exactly;
  best = λ g flow side f cut e. record { greatest = greatest_from_meeting g flow side f cut e; least = least_from_meeting g flow side f cut e };
}
