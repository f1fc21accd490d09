use Rattle.pf_model.proofs.Certificate.{least_between}
use Rattle.pf_model.proofs.laws.nesting.least_stays.Goals as goal

pub returns : goal.returns
returns c = least_between
