use Rattle.pf_model.proofs.Affine.{capacity_of_line}
use Rattle.pf_model.proofs.laws.nesting.capacity_is_line.Goals as goal

pub returns : goal.returns
returns c = capacity_of_line
