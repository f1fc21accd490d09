use Rattle.pf_closure.proofs.GatheringLemmas.{AreGathered}
use Rattle.pf_closure.proofs.gathering.numbers_of.Given as goal

abbrev pub invariant-slots : goal.invariant-slots
invariant-slots l = AreGathered l.slots l.i l.costs.items l.weights.items
