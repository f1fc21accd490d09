use Rattle.std.proofs.Common.{refl}
use Rattle.pf_closure.proofs.GatheringLemmas.{one_missing, gathered_more}
use Rattle.pf_closure.proofs.gathering.numbers_of.Goals as goal

pub returns-in_default-clause-refused : goal.returns-in_default-clause-refused
returns-in_default-clause-refused c = λ needs. rw (one_missing c.args.slots.now c.slots.i c.slots-test.true c.in_default.is) refl

pub slots-preserved : goal.slots-preserved
slots-preserved c =
    gathered_more c.args.slots.now c.slots.i c.slots.costs.items c.slots.weights.items _ _ c.in-Some.cost c.in-Some.weight c.slots.invariant c.slots-test.true
    c.in-Some.is c.in_ok-push_number.ensures c.in_ok-push_number-2.ensures
