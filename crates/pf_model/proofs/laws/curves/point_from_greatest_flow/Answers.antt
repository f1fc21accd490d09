use Rattle.pf_model.proofs.Simple.{point_of_greatest}
use Rattle.pf_model.proofs.laws.curves.point_from_greatest_flow.Goals as goal

pub returns : goal.returns
returns c = point_of_greatest
