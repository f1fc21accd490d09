use Rattle.pf_model.proofs.Unique.{curve_unique}
use Rattle.pf_model.proofs.Whole.{same_lowest_points}
use Rattle.pf_model.proofs.laws.curves.curve_is_unique.Goals as goal

pub returns : goal.returns
returns c = record {
  one = curve_unique;
  lowest = same_lowest_points;
}
