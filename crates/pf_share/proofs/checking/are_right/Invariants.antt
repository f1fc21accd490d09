use Rattle.pf_share.specs.Tests.{AreRight}
use Rattle.pf_share.proofs.checking.are_right.Given as goal

abbrev pub invariant-arcs : goal.invariant-arcs
invariant-arcs l = AreRight l.sharing l.answer l.i
