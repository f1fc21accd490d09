use Rattle.pf_strength.proofs.SameAnswers.{one_answer, certified_is_right}
use Rattle.pf_strength.proofs.laws.texts_determine_answers.Goals as goal

pub returns : goal.returns
returns c = record { strength = one_answer; certified = certified_is_right }
