use Rattle.pf_frame.specs.Numbers.{AreWithin}
use Rattle.pf_forest.proofs.meets.are_within.Given as goal

abbrev pub invariant-edges : goal.invariant-edges
invariant-edges l = AreWithin l.vector l.shares l.i
