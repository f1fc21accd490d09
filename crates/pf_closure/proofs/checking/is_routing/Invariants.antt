use Rattle.pf_closure.specs.Dropping.{AreRouted}
use Rattle.pf_closure.proofs.checking.is_routing.Given as goal

abbrev pub invariant-needs : goal.invariant-needs
invariant-needs l = AreRouted l.routing l.k
