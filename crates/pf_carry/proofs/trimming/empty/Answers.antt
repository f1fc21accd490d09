use Rattle.std.proofs.Common.{arith, to_z, of_z, get_or}
use Rattle.std.proofs.lemmas.Int.{ints}
use Rattle.pf_model.specs.Cut.{at_arc}
use mir.Syntax.{w128}
use Rattle.pf_frame.proofs.Steps.{out_item}
use Rattle.pf_carry.proofs.Emptying.{emptying_next, emptying_ends}
use Rattle.pf_carry.proofs.trimming.empty.Goals as goal

pub slice_copy_out-amount : goal.slice_copy_out-amount
slice_copy_out-amount c =
    let n = out_item c.args.frame.now _ c.outs.i-index _ c.outs.invariant.items_are (omega arith) in
    omega (arith, n.in_range, c.outs.invariant.sums_are.bounded.full)

pub lower-requires-clause-arc : goal.lower-requires-clause-arc
lower-requires-clause-arc c = (out_item c.args.frame.now _ c.outs.i-index _ c.outs.invariant.items_are (omega arith)).in_range

pub outs-preserved : goal.outs-preserved
outs-preserved c =
    let n = out_item c.args.frame.now _ c.outs.i-index _ c.outs.invariant.items_are (omega arith) in
    let low = c.outs.invariant.sums_are.bounded.low (get_or c.outs-i-items.result.now c.outs.i-index 0) n.in_range in
    let high = c.outs.invariant.sums_are.bounded.high (get_or c.outs-i-items.result.now c.outs.i-index 0) n.in_range in
    emptying_next c.args.frame.now c.args.v c.args.flow.now c.outs.flow c.lower.new.flow c.outs.sums c.lower.new.sums c.outs-i-items.result.now c.outs.i-index
    (to_z w128 (of_z w128 (at_arc c.outs.flow (get_or c.outs-i-items.result.now c.outs.i-index 0)))) c.outs.invariant n.in_range
    (omega (arith, ints, low, high)) c.lower.ensures.flow c.lower.ensures.sums

pub returns-clause-none : goal.returns-clause-none
returns-clause-none c =
    emptying_ends c.args.frame.now c.args.v c.args.flow.now c.outs.flow c.outs.sums c.outs-i-items.result.now c.outs.i-index c.outs.invariant (omega arith)
