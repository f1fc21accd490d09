use Rattle.pf_dense.proofs.WeighingLemmas.{IsTotal}
use Rattle.pf_dense.proofs.network.total_weight.Given as goal

abbrev pub invariant-edges : goal.invariant-edges
invariant-edges l = IsTotal l.graph l.total l.i
