use Rattle.pf_reinforce.proofs.Gains.{IsCost}
use Rattle.pf_reinforce.proofs.sums.cost_of.Given as goal

abbrev pub invariant-edges : goal.invariant-edges
invariant-edges l = IsCost l.graph.prices l.added l.i l.sum
