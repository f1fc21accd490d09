use Rattle.pf_share.specs.Tests.{AreFirstBalances}
use Rattle.pf_share.proofs.checking.add_arcs.Given as goal

abbrev pub invariant-arcs : goal.invariant-arcs
invariant-arcs l = AreFirstBalances l.sharing l.answer l.i l.sums
