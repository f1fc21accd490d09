use Rattle.pf_par.proofs.OneAnswer.{one_point, one_curve}
use Rattle.pf_par.proofs.laws.cuts_are_unique.Goals as goal

pub returns : goal.returns
returns c = record { point = one_point; curve = one_curve }
