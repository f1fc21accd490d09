use Rattle.pf_closure.proofs.SameAnswers.{one_answer, certified_is_right}
use Rattle.pf_closure.proofs.laws.texts_determine_answers.Goals as goal

pub returns : goal.returns
returns c = record { ratio = one_answer; certified = certified_is_right }
