use Rattle.pf_dense.proofs.SameAnswers.{one_answer, certified_is_right}
use Rattle.pf_dense.proofs.laws.texts_determine_answers.Goals as goal

pub returns : goal.returns
returns c = record { dense = one_answer; certified = certified_is_right }
