use Rattle.std.proofs.Common.{◌+◌, arith, sym, ◌∙◌, refl}
use Rattle.std.proofs.lemmas.List.{length-map}
use Rattle.pf_model.specs.Network.{ends_of}
use Rattle.pf_frame.proofs.Steps.{out_item, in_item}
use Rattle.pf_net.specs.Limits.{digraph_of}
use Rattle.pf_sweep.proofs.Moved.{StandsBefore, IsPast, moving_begins, moving_bounds, moving_more, moving_ends, second_begins, before_more, past_more}
use Rattle.pf_sweep.proofs.moving.touch_ends.Goals as goal

pub outs-init : goal.outs-init
outs-init c = record {
  moving = moving_begins _ _ _ _ _ _ _ (c.requires.caps ∙ sym (length-map c.args.net.now.arcs ends_of)) c.requires.flow.full;
  items = rw (c.frame-frame.ensures.frame, c.source-s.ensures) at c.outs-i-items.ensures;
}

pub touch-requires-clause-arc : goal.touch-requires-clause-arc
touch-requires-clause-arc c =
    let n = out_item (digraph_of c.args.net.now) _ c.outs.i-index _ c.outs.invariant.items (omega arith) in
    omega (arith, n.in_range, length-map c.args.net.now.arcs ends_of)

pub touch-requires-clause-low : goal.touch-requires-clause-low
touch-requires-clause-low c =
    let n = out_item (digraph_of c.args.net.now) _ c.outs.i-index _ c.outs.invariant.items (omega arith) in
    let m = c.outs.invariant.moving in
    (moving_bounds _ _ _ _ _ _ _ _ _ _ c.requires.wanted c.requires.flow m n.in_range).0

pub touch-requires-clause-high : goal.touch-requires-clause-high
touch-requires-clause-high c =
    let n = out_item (digraph_of c.args.net.now) _ c.outs.i-index _ c.outs.invariant.items (omega arith) in
    let m = c.outs.invariant.moving in
    (moving_bounds _ _ _ _ _ _ _ _ _ _ c.requires.wanted c.requires.flow m n.in_range).1

pub outs-preserved : goal.outs-preserved
outs-preserved c =
    let n = out_item (digraph_of c.args.net.now) _ c.outs.i-index _ c.outs.invariant.items (omega arith) in
    record {
      moving = moving_more _ _ _ _ _ _ _ _ _ _ (StandsBefore c.outs-i-items.result.now c.outs.i-index) (StandsBefore c.outs-i-items.result.now (c.outs.i-index + 1)) _ _
          c.outs.invariant.moving n.in_range c.touch.ensures.caps c.touch.ensures.flow refl (λ k d. before_more c.outs-i-items.result.now c.outs.i-index k d);
      items = c.outs.invariant.items;
    }

pub ins-init : goal.ins-init
ins-init c = record {
  moving = second_begins _ _ _ _ _ _ _ _ c.outs-i-items.result.now _ c.outs.i-index c.outs.invariant.items (omega arith) c.outs.invariant.moving;
  items = rw (c.frame-frame.ensures.frame, c.sink-t.ensures) at c.ins-i-items.ensures;
}

pub touch-requires-in-ins-clause-arc : goal.touch-requires-in-ins-clause-arc
touch-requires-in-ins-clause-arc c =
    let n = in_item (digraph_of c.args.net.now) _ c.ins.i-index _ c.ins.invariant.items (omega arith) in
    omega (arith, n.in_range, length-map c.args.net.now.arcs ends_of)

pub touch-requires-in-ins-clause-low : goal.touch-requires-in-ins-clause-low
touch-requires-in-ins-clause-low c =
    let n = in_item (digraph_of c.args.net.now) _ c.ins.i-index _ c.ins.invariant.items (omega arith) in
    let m = c.ins.invariant.moving in
    (moving_bounds _ _ _ _ _ _ _ _ _ _ c.requires.wanted c.requires.flow m n.in_range).0

pub touch-requires-in-ins-clause-high : goal.touch-requires-in-ins-clause-high
touch-requires-in-ins-clause-high c =
    let n = in_item (digraph_of c.args.net.now) _ c.ins.i-index _ c.ins.invariant.items (omega arith) in
    let m = c.ins.invariant.moving in
    (moving_bounds _ _ _ _ _ _ _ _ _ _ c.requires.wanted c.requires.flow m n.in_range).1

pub ins-preserved : goal.ins-preserved
ins-preserved c =
    let n = in_item (digraph_of c.args.net.now) _ c.ins.i-index _ c.ins.invariant.items (omega arith) in
    record {
      moving = moving_more _ _ _ _ _ _ _ _ _ _ (IsPast (digraph_of c.args.net.now) c.args.net.now.source c.ins-i-items.result.now c.ins.i-index)
          (IsPast (digraph_of c.args.net.now) c.args.net.now.source c.ins-i-items.result.now (c.ins.i-index + 1)) _ _
          c.ins.invariant.moving n.in_range c.touch-in-ins.ensures.caps c.touch-in-ins.ensures.flow refl
          (λ k d. past_more (digraph_of c.args.net.now) c.args.net.now.source c.ins-i-items.result.now c.ins.i-index k d);
      items = c.ins.invariant.items;
    }

pub returns : goal.returns
returns c =
    let m = c.ins.invariant.moving in
    moving_ends _ _ _ _ _ _ _ _ _ c.ins-i-items.result.now c.ins.i-index c.ins.invariant.items (omega arith) m
