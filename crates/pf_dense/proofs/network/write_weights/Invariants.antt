use Rattle.pf_dense.proofs.WeighingLemmas.{IsWeighing}
use Rattle.pf_dense.proofs.network.write_weights.Given as goal

abbrev pub invariant-edges : goal.invariant-edges
invariant-edges l = IsWeighing l.graph l.sums l.i
