use Rattle.pf_sweep.proofs.Counting.{few_relabellings}
use Rattle.pf_sweep.proofs.laws.few_relabellings.Goals as goal

pub returns : goal.returns
returns c = few_relabellings
