use Rattle.pf_model.proofs.Exists.{greatest_exists}
use Rattle.pf_model.proofs.laws.flows.greatest_exists.Goals as goal

pub returns : goal.returns
returns c = greatest_exists
