use Rattle.pf_preflow.proofs.Pushing.{next_in}
use Rattle.pf_preflow.proofs.active.next_active.Goals as goal

pub returns-clause-next : goal.returns-clause-next
returns-clause-next c =
    next_in c.args.net.source c.args.net.sink c.as_slice.result.now c.args.room.now.excess.items c.take_active.result c.as_slice.ensures.value c.take_active.ensures.active c.take_active.ensures.none
