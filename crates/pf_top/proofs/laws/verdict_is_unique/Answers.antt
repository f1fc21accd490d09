use Rattle.pf_text.proofs.VerdictLemmas.{one_right_text}
use Rattle.pf_top.proofs.laws.verdict_is_unique.Goals as goal

pub returns : goal.returns
returns c = λ row problem rest text other a b. one_right_text text other a b
