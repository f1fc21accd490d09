use Rattle.pf_model.proofs.Whole.{curve_is_short}
use Rattle.pf_model.proofs.laws.curves.curve_is_short.Goals as goal

pub returns : goal.returns
returns c = curve_is_short
