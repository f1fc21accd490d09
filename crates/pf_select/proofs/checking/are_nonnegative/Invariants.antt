use Rattle.pf_select.specs.Tests.{AreNonnegative}
use Rattle.pf_select.proofs.checking.are_nonnegative.Given as goal

abbrev pub invariant-numbers : goal.invariant-numbers
invariant-numbers l = AreNonnegative l.numbers l.i
