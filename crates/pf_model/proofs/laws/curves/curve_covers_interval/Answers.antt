use Rattle.pf_model.proofs.Certificate.{point_inside}
use Rattle.pf_model.proofs.Whole.{covered}
use Rattle.pf_model.proofs.laws.curves.curve_covers_interval.Goals as goal

pub returns : goal.returns
returns c = record {
  points = point_inside;
  covers = covered;
}
