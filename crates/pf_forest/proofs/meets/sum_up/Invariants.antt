use Rattle.pf_forest.proofs.Giving.{HasTotal}
use Rattle.pf_forest.proofs.meets.sum_up.Given as goal

abbrev pub invariant-edges : goal.invariant-edges
invariant-edges l = HasTotal l.frame.ends l.vector l.i l.sum
