use Rattle.std.proofs.Common.{arith, ap, sym, ◌∙◌, to_z, of_z, length}
use Rattle.std.specs.Prelude.{◌≡◌, ◌+ℤ◌, ◌-ℤ◌, ◌<◌, pos}
use Rattle.std.proofs.lemmas.Int.{ints, to_z-of_z}
use Rattle.pf_model.specs.Cut.{at_arc}
use mir.Syntax.{w128}
use Rattle.std.proofs.Common.{set}
use Rattle.pf_frame.proofs.Balances.{raised_within}
use Rattle.pf_carry.specs.Carry.{floored}
use Rattle.pf_carry.proofs.Floors.{same_carried}
use Rattle.pf_carry.proofs.Scaled.{floored_at, floored_bounded, scaled_next, scaled_is, scaled_ends}
use Rattle.pf_carry.proofs.scaling.scale.Goals as goal

pub put-requires-clause-high : goal.put-requires-clause-high
put-requires-clause-high c =
    let low = c.fitted-number.ensures.low in
    let most = c.fitted-number.ensures.most in
    let cl = c.requires.caps.low c.arcs.i (omega arith) in
    let ch = c.requires.caps.high c.arcs.i (omega arith) in
    omega (arith, ints, low, most, cl, ch)

pub add-requires-clause-low : goal.add-requires-clause-low
add-requires-clause-low c =
    let h = c.arcs.invariant.sums_are.low c.tail.result c.tail.ensures.node in omega (arith, ints, h, c.arcs-i-end.ensures.few)

pub add-requires-clause-high : goal.add-requires-clause-high
add-requires-clause-high c =
    let h = c.arcs.invariant.sums_are.high c.tail.result c.tail.ensures.node in omega (arith, ints, h, c.arcs-i-end.ensures.few)

pub add-requires-clause-amount_high : goal.add-requires-clause-amount_high
add-requires-clause-amount_high c =
    let low = c.fitted-number.ensures.low in
    let most = c.fitted-number.ensures.most in
    let cl = c.requires.caps.low c.arcs.i (omega arith) in
    let ch = c.requires.caps.high c.arcs.i (omega arith) in
    omega (arith, ints, low, most, cl, ch)

pub add-requires-in-arcs-clause-low : goal.add-requires-in-arcs-clause-low
add-requires-in-arcs-clause-low c =
    let low = c.fitted-number.ensures.low in
    let most = c.fitted-number.ensures.most in
    let cl = c.requires.caps.low c.arcs.i (omega arith) in
    let ch = c.requires.caps.high c.arcs.i (omega arith) in
    let places : c.tail.result < length c.arcs.sums = omega (arith, c.tail.ensures.node, c.arcs.invariant.sums_are.places) in
    (raised_within c.arcs.sums c.add.new.numbers c.tail.result c.head.result c.arcs.i (to_z w128 (of_z w128 c.fitted-number.result)) c.add.ensures places
    (omega (arith, c.arcs-i-end.ensures.few)) (omega (arith, ints, low, most, cl, ch)) (omega (arith, ints, low, most, cl, ch))
    (c.arcs.invariant.sums_are.low c.head.result c.head.ensures.node) (c.arcs.invariant.sums_are.high c.head.result c.head.ensures.node)).0

pub add-requires-in-arcs-clause-high : goal.add-requires-in-arcs-clause-high
add-requires-in-arcs-clause-high c =
    let low = c.fitted-number.ensures.low in
    let most = c.fitted-number.ensures.most in
    let cl = c.requires.caps.low c.arcs.i (omega arith) in
    let ch = c.requires.caps.high c.arcs.i (omega arith) in
    let places : c.tail.result < length c.arcs.sums = omega (arith, c.tail.ensures.node, c.arcs.invariant.sums_are.places) in
    (raised_within c.arcs.sums c.add.new.numbers c.tail.result c.head.result c.arcs.i (to_z w128 (of_z w128 c.fitted-number.result)) c.add.ensures places
    (omega (arith, c.arcs-i-end.ensures.few)) (omega (arith, ints, low, most, cl, ch)) (omega (arith, ints, low, most, cl, ch))
    (c.arcs.invariant.sums_are.low c.head.result c.head.ensures.node) (c.arcs.invariant.sums_are.high c.head.result c.head.ensures.node)).1

pub add-requires-in-arcs-clause-amount_low : goal.add-requires-in-arcs-clause-amount_low
add-requires-in-arcs-clause-amount_low c =
    let low = c.fitted-number.ensures.low in
    let most = c.fitted-number.ensures.most in
    let cl = c.requires.caps.low c.arcs.i (omega arith) in
    let ch = c.requires.caps.high c.arcs.i (omega arith) in
    omega (arith, ints, low, most, cl, ch)

pub arcs-preserved : goal.arcs-preserved
arcs-preserved c =
    let low = c.fitted-number.ensures.low in
    let most = c.fitted-number.ensures.most in
    let there : c.arcs.i < length c.args.frame.now.ends = omega arith in
    let cl = c.requires.caps.low c.arcs.i there in
    let ch = c.requires.caps.high c.arcs.i there in
    let fl = c.requires.flow.low c.arcs.i there in
    let fh = c.requires.flow.high c.arcs.i there in
    let uh = c.requires.from.high in
    let behind = c.arcs.invariant.behind c.arcs.i (omega arith) in
    let from = to_z-of_z w128 c.args.from c.ranges.from in
    let to = to_z-of_z w128 c.args.to c.ranges.to in
    let cap : to_z w128 (of_z w128 (at_arc c.args.caps.now c.arcs.i)) ≡ at_arc c.args.caps.now c.arcs.i = omega (arith, ints, cl, ch) in
    let x : to_z w128 (of_z w128 (at_arc c.arcs.flow c.arcs.i)) ≡ at_arc c.args.flow.now c.arcs.i = omega (arith, ints, behind, fl, fh, uh) in
    let full = c.requires.flow.full in
    let caps = c.requires.caps.full in
    let is = same_carried c.fitted-number.result _ _ _ _ c.args.from c.args.to (at_arc c.args.caps.now c.arcs.i) (at_arc c.args.flow.now c.arcs.i) from to cap x c.fitted-number.ensures.value in
    let wanted = floored_at c.args.from c.args.to c.args.caps.now c.args.flow.now c.arcs.i (omega (arith, caps, there)) (omega (arith, full, there)) in
    let back : to_z w128 (of_z w128 c.fitted-number.result) ≡ c.fitted-number.result = omega (arith, ints, low, most, cap, ch) in
    let here : to_z w128 (of_z w128 c.fitted-number.result) ≡ at_arc (floored c.args.from c.args.to c.args.caps.now c.args.flow.now) c.arcs.i = back ∙ (is ∙ sym wanted) in
    let so_far = rw (from, to) at c.arcs.invariant in
    rw (from, to)
    (scaled_next c.args.frame.now (floored c.args.from c.args.to c.args.caps.now c.args.flow.now) c.args.flow.now c.arcs.flow c.put.new.numbers c.arcs.sums c.add.new.numbers c.add-in-arcs.new.numbers
    c.arcs.i c.tail.result c.head.result (to_z w128 (of_z w128 (pos 0 -ℤ to_z w128 (of_z w128 c.fitted-number.result)))) so_far
    (floored_bounded c.args.frame.now c.args.from c.args.to c.args.caps.now c.args.flow.now c.requires.from c.requires.to c.requires.caps c.requires.flow)
    c.requires.flow.full there (c.put.ensures ∙ ap (λ n. set c.arcs.flow c.arcs.i n) here) c.tail.ensures.value c.head.ensures.value c.tail.ensures.node c.head.ensures.node
    (c.add.ensures ∙ ap (λ n. set c.arcs.sums c.tail.result (at_arc c.arcs.sums c.tail.result +ℤ n)) here) c.add-in-arcs.ensures
    (omega (arith, ints, low, most, cap, ch, here)))

pub returns-clause-flow : goal.returns-clause-flow
returns-clause-flow c =
    let so_far = rw (to_z-of_z w128 c.args.from c.ranges.from, to_z-of_z w128 c.args.to c.ranges.to) at c.arcs.invariant in
    scaled_is c.args.frame.now (floored c.args.from c.args.to c.args.caps.now c.args.flow.now) c.args.flow.now c.arcs.flow c.arcs.sums c.arcs.i so_far
    (floored_bounded c.args.frame.now c.args.from c.args.to c.args.caps.now c.args.flow.now c.requires.from c.requires.to c.requires.caps c.requires.flow)
    c.requires.flow.full (omega arith)

pub returns-clause-sums : goal.returns-clause-sums
returns-clause-sums c =
    let so_far = rw (to_z-of_z w128 c.args.from c.ranges.from, to_z-of_z w128 c.args.to c.ranges.to) at c.arcs.invariant in
    scaled_ends c.args.frame.now (floored c.args.from c.args.to c.args.caps.now c.args.flow.now) c.args.flow.now c.arcs.flow c.arcs.sums c.arcs.i so_far
    (floored_bounded c.args.frame.now c.args.from c.args.to c.args.caps.now c.args.flow.now c.requires.from c.requires.to c.requires.caps c.requires.flow)
    c.requires.flow.full (omega arith)
