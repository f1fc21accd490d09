use Rattle.pf_dense.specs.Dropping.{AreAllowed}
use Rattle.pf_dense.proofs.charging.are_within.Given as goal

abbrev pub invariant-vertices : goal.invariant-vertices
invariant-vertices l = AreAllowed l.graph l.at l.sums l.v
