use Rattle.std.proofs.Common.{refl, arith}
use Rattle.pf_select.proofs.GatheringLemmas.{gathered_begin, one_missing, gathered_more, gathered_end}
use Rattle.pf_select.proofs.gathering.numbers_of.Goals as goal

pub slots-init : goal.slots-init
slots-init c = gathered_begin c.args.slots.now _ c.in_ok-numbers.ensures.items

pub returns-in_default-clause-refused : goal.returns-in_default-clause-refused
returns-in_default-clause-refused c = (one_missing c.args.slots.now c.slots.i c.slots-test.true c.in_default.is, refl)

pub slots-preserved : goal.slots-preserved
slots-preserved c = gathered_more c.args.slots.now c.slots.i c.slots.numbers.items _ c.in-Some.number c.slots.invariant c.slots-test.true c.in-Some.is c.in_ok-push_number.ensures

pub returns-clause-found : goal.returns-clause-found
returns-clause-found c = gathered_end c.args.slots.now c.slots.i c.slots.numbers.items c.slots.invariant (omega arith)
