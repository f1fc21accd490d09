use Rattle.pf_par.proofs.RightLemmas.{one_verdict}
use Rattle.pf_par.proofs.laws.verdict_is_unique.Goals as goal

pub returns : goal.returns
returns c = one_verdict
