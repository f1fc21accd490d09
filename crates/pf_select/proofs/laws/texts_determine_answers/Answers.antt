use Rattle.pf_select.proofs.SameAnswers.{one_answer, certified_is_right}
use Rattle.pf_select.proofs.laws.texts_determine_answers.Goals as goal

pub returns : goal.returns
returns c = record { schedule = one_answer; certified = certified_is_right }
