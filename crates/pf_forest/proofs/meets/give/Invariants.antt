use Rattle.pf_forest.proofs.Giving.{HasGiven}
use Rattle.pf_forest.proofs.meets.give.Given as goal

abbrev pub invariant-edges : goal.invariant-edges
invariant-edges l = HasGiven l.frame.nodes l.frame.ends l.vector l.shares l.sums l.i
