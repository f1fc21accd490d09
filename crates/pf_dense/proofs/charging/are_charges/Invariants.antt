use Rattle.pf_dense.specs.Dropping.{AreChargesTo}
use Rattle.pf_dense.proofs.charging.are_charges.Given as goal

abbrev pub invariant-edges : goal.invariant-edges
invariant-edges l = AreChargesTo l.graph l.at l.charges l.i
