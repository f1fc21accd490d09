use Rattle.pf_select.specs.Tests.{ArePaid}
use Rattle.pf_select.proofs.checking.are_paid.Given as goal

abbrev pub invariant-products : goal.invariant-products
invariant-products l = ArePaid l.numbers l.marks l.j
