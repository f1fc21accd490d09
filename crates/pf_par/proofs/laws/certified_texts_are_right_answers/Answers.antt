use Rattle.pf_par.proofs.RightLemmas.{certified_is_right}
use Rattle.pf_par.proofs.laws.certified_texts_are_right_answers.Goals as goal

pub returns : goal.returns
returns c = certified_is_right
