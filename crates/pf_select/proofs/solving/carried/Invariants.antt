use Rattle.pf_select.specs.Carried.{AreCarried}
use Rattle.pf_select.proofs.solving.carried.Given as goal

abbrev pub invariant-prices : goal.invariant-prices
invariant-prices l = AreCarried l.catalogue l.curve.flows l.charges l.j
