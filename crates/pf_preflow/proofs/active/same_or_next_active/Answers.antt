use Rattle.std.proofs.lemmas.Int.{ints}
use Rattle.std.proofs.Common.{arith}
use Rattle.pf_preflow.proofs.Pushing.{next_same}
use Rattle.pf_preflow.proofs.active.same_or_next_active.Goals as goal

pub returns-then-excess-v-gt0-clause-next : goal.returns-then-excess-v-gt0-clause-next
returns-then-excess-v-gt0-clause-next c =
    next_same c.args.net.source c.args.net.sink c.as_slice-excess.result.now c.args.room.now.excess.items c.args.v c.as_slice-excess.ensures.value c.requires.not_source c.requires.not_sink
    (omega (arith, c.requires.node, c.requires.room.excess)) (omega (arith, ints, c.if-excess-v-gt0.true))
