use Rattle.std.proofs.Common.{◌≡◌, ◌<◌, length, set, arith, ap, ◌∙◌, to_z, of_z}
use Rattle.std.specs.Prelude.{◌+ℤ◌, ◌-ℤ◌}
use Rattle.std.proofs.lemmas.Int.{ints}
use Rattle.pf_model.specs.Cut.{at_arc}
use Rattle.pf_frame.proofs.Balances.{raised_within}
use Rattle.pf_forest.proofs.Giving.{gives_start, gives_more, gives_all}
use Rattle.pf_forest.proofs.meets.give.Goals as goal
use mir.Syntax.{w128}

pub edges-init : goal.edges-init
edges-init c = gives_start _ _ _ _ c.fill.new.self (length c.args.sums.now) (c.fill.ensures.after (λ y e. e)) c.requires.places

pub overflow_sub-rest : goal.overflow_sub-rest
overflow_sub-rest c =
    let least = c.requires.within.low c.edges.i (omega (arith, c.requires.vector.full)) in
    let most = c.requires.within.high c.edges.i (omega (arith, c.requires.vector.full)) in
    let top = c.requires.vector.high c.edges.i (omega arith) in
    omega (arith, ints, least, most, top)

pub add-requires : goal.add-requires
add-requires c =
    let least = c.requires.within.low c.edges.i (omega (arith, c.requires.vector.full)) in
    let most = c.requires.within.high c.edges.i (omega (arith, c.requires.vector.full)) in
    let top = c.requires.vector.high c.edges.i (omega arith) in
    let low = c.edges.invariant.low c.tail.result c.tail.ensures.node in
    let high = c.edges.invariant.high c.tail.result c.tail.ensures.node in
    record {
      place = omega (arith, c.tail.ensures.node, c.edges.invariant.places);
      low = omega (arith, ints, low, c.arcs-i-end.ensures.few);
      high = omega (arith, ints, high, c.arcs-i-end.ensures.few);
      amount_low = omega (arith, ints, least, most, top);
      amount_high = omega (arith, ints, least, most, top);
    }

pub add-requires-in-edges : goal.add-requires-in-edges
add-requires-in-edges c =
    let least = c.requires.within.low c.edges.i (omega (arith, c.requires.vector.full)) in
    let most = c.requires.within.high c.edges.i (omega (arith, c.requires.vector.full)) in
    let top = c.requires.vector.high c.edges.i (omega arith) in
    let e : to_z w128 (of_z w128 (at_arc c.args.shares.now c.edges.i)) ≡ at_arc c.args.shares.now c.edges.i = omega (arith, ints, least, most, top) in
    let places : c.tail.result < length c.edges.sums = omega (arith, c.tail.ensures.node, c.edges.invariant.places) in
    let within = raised_within c.edges.sums c.add.new.sums c.tail.result c.head.result c.edges.i (at_arc c.args.shares.now c.edges.i)
    (c.add.ensures ∙ ap (λ x. set c.edges.sums c.tail.result (at_arc c.edges.sums c.tail.result +ℤ x)) e) places (omega (arith, c.arcs-i-end.ensures.few)) least
    (omega (arith, ints, most, top)) (c.edges.invariant.low c.head.result c.head.ensures.node) (c.edges.invariant.high c.head.result c.head.ensures.node) in
    record {
      place = omega (arith, c.head.ensures.node, c.edges.invariant.places, c.add.auto.sums);
      low = within.0;
      high = within.1;
      amount_low = omega (arith, ints, least, most, top);
      amount_high = omega (arith, ints, least, most, top);
    }

pub edges-preserved : goal.edges-preserved
edges-preserved c =
    let least = c.requires.within.low c.edges.i (omega (arith, c.requires.vector.full)) in
    let most = c.requires.within.high c.edges.i (omega (arith, c.requires.vector.full)) in
    let top = c.requires.vector.high c.edges.i (omega arith) in
    let is_x : to_z w128 (of_z w128 (at_arc c.args.shares.now c.edges.i)) ≡ at_arc c.args.shares.now c.edges.i = omega (arith, ints, least, most, top) in
    let is_y : to_z w128 (of_z w128 (to_z w128 (of_z w128 (at_arc c.args.vector.now c.edges.i)) -ℤ to_z w128 (of_z w128 (at_arc c.args.shares.now c.edges.i))))
    ≡ at_arc c.args.vector.now c.edges.i -ℤ at_arc c.args.shares.now c.edges.i = omega (arith, ints, least, most, top) in
    gives_more c.args.frame.now.nodes c.args.frame.now.ends c.args.vector.now c.args.shares.now c.edges.sums c.add.new.sums _ c.edges.i c.tail.result c.head.result _ _
    c.edges.invariant c.requires.vector.full c.requires.shares (omega arith) c.tail.ensures.value c.head.ensures.value c.tail.ensures.node c.head.ensures.node
    least most top is_x is_y c.add.ensures c.add-in-edges.ensures

pub returns : goal.returns
returns c = gives_all _ _ _ _ _ c.edges.i c.edges.invariant c.requires.vector.full c.requires.shares (omega arith)
