use Rattle.pf_top.proofs.SweepLemmas.{near_ends}
use Rattle.pf_top.proofs.text_net.TextNet.read.Goals as goal

pub invariant_of-result : goal.invariant_of-result
invariant_of-result c = near_ends _ _ c.in-Ok.ensures.judged
