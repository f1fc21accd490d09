use Rattle.std.proofs.Common.{get_or, refl, arith, ◌∙◌}
use Rattle.std.proofs.lemmas.Int.{ints}
use Rattle.pf_frame.proofs.ArcSums.{total_more, in_few, in_total}
use Rattle.pf_frame.proofs.Steps.{in_item}
use Rattle.pf_frame.proofs.flow.inflow.Goals as goal

pub ins-init : goal.ins-init
ins-init c = record { items = c.ins-i-items.ensures; sum_is = refl; low = omega (arith, ints); high = omega (arith, ints) }

pub bounds-flow-i : goal.bounds-flow-i
bounds-flow-i c =
    let n = in_item c.args.frame.now _ c.ins.i-index _ c.ins.invariant.items (omega arith) in
    omega (arith, n.in_range, c.requires.flow.full)

pub overflow_add-sum : goal.overflow_add-sum
overflow_add-sum c =
    let n = in_item c.args.frame.now _ c.ins.i-index _ c.ins.invariant.items (omega arith) in
    let low = c.requires.flow.low (get_or c.ins-i-items.result.now c.ins.i-index 0) n.in_range in
    let high = c.requires.flow.high (get_or c.ins-i-items.result.now c.ins.i-index 0) n.in_range in
    let few = in_few c.args.frame.now c.args.v _ c.ins.invariant.items in
    omega (arith, ints)

pub ins-preserved : goal.ins-preserved
ins-preserved c =
    let n = in_item c.args.frame.now _ c.ins.i-index _ c.ins.invariant.items (omega arith) in
    let low = c.requires.flow.low (get_or c.ins-i-items.result.now c.ins.i-index 0) n.in_range in
    let high = c.requires.flow.high (get_or c.ins-i-items.result.now c.ins.i-index 0) n.in_range in
    let few = in_few c.args.frame.now c.args.v _ c.ins.invariant.items in
    let more = total_more c.args.flow.now c.ins-i-items.result.now c.ins.i-index (omega arith) in
    let is = c.ins.invariant.sum_is in
    record {
      items = c.ins.invariant.items;
      sum_is = omega (arith, ints, more, is);
      low = omega (arith, ints);
      high = omega (arith, ints);
    }

pub returns-clause-value : goal.returns-clause-value
returns-clause-value c =
    c.ins.invariant.sum_is ∙ in_total c.args.frame.now c.args.v c.args.flow.now c.ins-i-items.result.now c.ins.i-index c.requires.flow.full c.ins.invariant.items (omega arith)

pub returns-clause-low : goal.returns-clause-low
returns-clause-low c =
    let few = in_few c.args.frame.now c.args.v _ c.ins.invariant.items in
    omega (arith, ints)

pub returns-clause-high : goal.returns-clause-high
returns-clause-high c =
    let few = in_few c.args.frame.now c.args.v _ c.ins.invariant.items in
    omega (arith, ints)
