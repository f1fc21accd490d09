use Rattle.std.proofs.Common.{arith, below_more}
use Rattle.std.proofs.lemmas.Int.{ints}
use Rattle.pf_preflow.proofs.RaisedLabels.{IsArcFine, near, valid_by_arcs}
use Rattle.pf_preflow.proofs.labels.are_valid.Goals as goal
use Rattle.pf_preflow.proofs.labels.are_valid.Goals.{else-to-from-via-then-to-from+else-flow-i, else-to-from-via-else-to-from, else-from-to-via-then-from-to+else-flow-i-gt0, else-from-to-via-else-from-to}

pub arcs-preserved : goal.arcs-preserved
arcs-preserved c = record {
  top = c.arcs.invariant.top;
  bottom = c.arcs.invariant.bottom;
  each = below_more (IsArcFine c.args.net.frame.now c.args.net.caps.now c.args.flow.now c.args.labels.now) c.arcs.i c.arcs.invariant.each (record {
    there = λ room. near c.args.labels.now _ _ c.tail.result c.head.result c.tail.ensures.value c.head.ensures.value (elim c.else-to-from.branch [
      | else-to-from-via-then-to-from+else-flow-i w ↦ absurd (omega (arith, ints, room, w.if-flow-i.false))
      | else-to-from-via-else-to-from w ↦ omega (arith, w.if-to-from.false)
    ]);
    again = λ room. near c.args.labels.now _ _ c.head.result c.tail.result c.head.ensures.value c.tail.ensures.value (elim c.else-from-to.branch [
      | else-from-to-via-then-from-to+else-flow-i-gt0 w ↦ absurd (omega (arith, ints, room, w.if-flow-i-gt0.false))
      | else-from-to-via-else-from-to w ↦ omega (arith, w.if-from-to.false)
    ]);
  });
}

pub returns : goal.returns
returns c yes' =
    valid_by_arcs c.args.net.frame.now c.args.net.caps.now c.args.flow.now c.args.net.source c.args.net.sink c.args.labels.now c.requires.labels c.arcs.invariant.top c.arcs.invariant.bottom
    (λ i h. c.arcs.invariant.each i (omega (arith, h)))
