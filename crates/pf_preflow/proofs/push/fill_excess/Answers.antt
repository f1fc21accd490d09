use Rattle.std.proofs.Common.{arith}
use Rattle.std.proofs.lemmas.Int.{ints}
use Rattle.pf_preflow.proofs.Filling.{partial_step}
use Rattle.pf_preflow.proofs.push.fill_excess.Goals as goal

pub arcs-preserved : goal.arcs-preserved
arcs-preserved c =
    let low = c.requires.flow.low c.arcs.i (omega arith) in
    let high = c.requires.flow.high c.arcs.i (omega arith) in
    partial_step c.args.frame.now c.args.flow.now c.arcs.excess c.move_excess.new.excess c.arcs.i c.tail.result c.head.result _ c.arcs.invariant
    c.requires.flow.full (omega arith) c.tail.ensures.value c.head.ensures.value c.tail.ensures.node c.head.ensures.node
    (omega (arith, ints, low, high)) (omega (arith, ints, low, high)) (omega (arith, ints, low, high)) c.move_excess.ensures
