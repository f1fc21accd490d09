use Rattle.pf_share.specs.Tests.{AreZero}
use Rattle.pf_share.proofs.checking.are_zero.Given as goal

abbrev pub invariant-nodes : goal.invariant-nodes
invariant-nodes l = AreZero l.sink l.sums l.v
