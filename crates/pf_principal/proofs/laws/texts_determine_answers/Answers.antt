use Rattle.pf_principal.proofs.SameAnswers.{one_answer, certified_is_right}
use Rattle.pf_principal.proofs.laws.texts_determine_answers.Goals as goal

pub returns : goal.returns
returns c = record { principal = one_answer; certified = certified_is_right }
