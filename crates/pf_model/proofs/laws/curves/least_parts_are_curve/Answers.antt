use Rattle.pf_model.proofs.Parts.{curve_from_parts}
use Rattle.pf_model.proofs.laws.curves.least_parts_are_curve.Goals as goal

pub returns : goal.returns
returns c = curve_from_parts
