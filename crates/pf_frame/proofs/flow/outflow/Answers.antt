use Rattle.std.proofs.Common.{get_or, refl, arith, ◌∙◌}
use Rattle.std.proofs.lemmas.Int.{ints}
use Rattle.pf_frame.proofs.ArcSums.{total_more, out_few, out_total}
use Rattle.pf_frame.proofs.Steps.{out_item}
use Rattle.pf_frame.proofs.flow.outflow.Goals as goal

pub outs-init : goal.outs-init
outs-init c = record { items = c.outs-i-items.ensures; sum_is = refl; low = omega (arith, ints); high = omega (arith, ints) }

pub bounds-flow-i : goal.bounds-flow-i
bounds-flow-i c =
    let n = out_item c.args.frame.now _ c.outs.i-index _ c.outs.invariant.items (omega arith) in
    omega (arith, n.in_range, c.requires.flow.full)

pub overflow_add-sum : goal.overflow_add-sum
overflow_add-sum c =
    let n = out_item c.args.frame.now _ c.outs.i-index _ c.outs.invariant.items (omega arith) in
    let low = c.requires.flow.low (get_or c.outs-i-items.result.now c.outs.i-index 0) n.in_range in
    let high = c.requires.flow.high (get_or c.outs-i-items.result.now c.outs.i-index 0) n.in_range in
    let few = out_few c.args.frame.now c.args.v _ c.outs.invariant.items in
    omega (arith, ints)

pub outs-preserved : goal.outs-preserved
outs-preserved c =
    let n = out_item c.args.frame.now _ c.outs.i-index _ c.outs.invariant.items (omega arith) in
    let low = c.requires.flow.low (get_or c.outs-i-items.result.now c.outs.i-index 0) n.in_range in
    let high = c.requires.flow.high (get_or c.outs-i-items.result.now c.outs.i-index 0) n.in_range in
    let few = out_few c.args.frame.now c.args.v _ c.outs.invariant.items in
    let more = total_more c.args.flow.now c.outs-i-items.result.now c.outs.i-index (omega arith) in
    let is = c.outs.invariant.sum_is in
    record {
      items = c.outs.invariant.items;
      sum_is = omega (arith, ints, more, is);
      low = omega (arith, ints);
      high = omega (arith, ints);
    }

pub returns-clause-value : goal.returns-clause-value
returns-clause-value c =
    c.outs.invariant.sum_is ∙ out_total c.args.frame.now c.args.v c.args.flow.now c.outs-i-items.result.now c.outs.i-index c.requires.flow.full c.outs.invariant.items (omega arith)

pub returns-clause-low : goal.returns-clause-low
returns-clause-low c =
    let few = out_few c.args.frame.now c.args.v _ c.outs.invariant.items in
    omega (arith, ints)

pub returns-clause-high : goal.returns-clause-high
returns-clause-high c =
    let few = out_few c.args.frame.now c.args.v _ c.outs.invariant.items in
    omega (arith, ints)
