use Rattle.pf_par.proofs.SameAnswers.{same_point}
use Rattle.pf_par.proofs.SameCurves.{same_curve}
use Rattle.pf_par.proofs.laws.texts_determine_answers.Goals as goal

pub returns : goal.returns
returns c = record { point = same_point; curve = same_curve }
