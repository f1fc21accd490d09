use Rattle.std.proofs.Common.{arith, to_z, of_z, refl}
use Rattle.std.specs.Prelude.{◌-ℤ◌, pos}
use Rattle.std.proofs.lemmas.Int.{ints}
use mir.Syntax.{w128}
use Rattle.pf_carry.proofs.Lowering.{less_most, summed_fits, summed_lower, wide_after}
use Rattle.pf_carry.proofs.trimming.lower.Goals as goal

pub add-requires-clause-low : goal.add-requires-clause-low
add-requires-clause-low c =
    let f = summed_fits c.args.frame.now c.args.flow.now c.args.sums.now c.tail.result c.requires.sums (omega (arith, c.arcs.ensures.value, c.arcs.ensures.few)) c.tail.ensures.node in
    let low = f.low in
    omega (arith, ints, low)

pub add-requires-clause-high : goal.add-requires-clause-high
add-requires-clause-high c =
    let f = summed_fits c.args.frame.now c.args.flow.now c.args.sums.now c.tail.result c.requires.sums (omega (arith, c.arcs.ensures.value, c.arcs.ensures.few)) c.tail.ensures.node in
    let high = f.high in
    omega (arith, ints, high)

pub add-requires-2-clause-low : goal.add-requires-2-clause-low
add-requires-2-clause-low c =
    let f = summed_fits c.args.frame.now c.args.flow.now c.args.sums.now c.head.result c.requires.sums (omega (arith, c.arcs.ensures.value, c.arcs.ensures.few)) c.head.ensures.node in
    let room = c.requires.sums.room in
    let some = c.requires.some in
    let there = c.requires.there in
    let high = c.requires.sums.bounded.high c.args.i c.requires.arc in
    (wide_after c.args.sums.now c.add.new.numbers c.tail.result c.head.result (to_z w128 (of_z w128 (pos 0 -ℤ to_z w128 (of_z w128 c.args.amount)))) f (omega (arith, room, c.tail.ensures.node)) c.add.ensures
    (omega (arith, ints, some, there, high)) (omega (arith, ints, some, there, high))).0

pub add-requires-2-clause-high : goal.add-requires-2-clause-high
add-requires-2-clause-high c =
    let f = summed_fits c.args.frame.now c.args.flow.now c.args.sums.now c.head.result c.requires.sums (omega (arith, c.arcs.ensures.value, c.arcs.ensures.few)) c.head.ensures.node in
    let room = c.requires.sums.room in
    let some = c.requires.some in
    let there = c.requires.there in
    let high = c.requires.sums.bounded.high c.args.i c.requires.arc in
    (wide_after c.args.sums.now c.add.new.numbers c.tail.result c.head.result (to_z w128 (of_z w128 (pos 0 -ℤ to_z w128 (of_z w128 c.args.amount)))) f (omega (arith, room, c.tail.ensures.node)) c.add.ensures
    (omega (arith, ints, some, there, high)) (omega (arith, ints, some, there, high))).1

pub returns-clause-most : goal.returns-clause-most
returns-clause-most c = λ k.
    let some = c.requires.some in
    let there = c.requires.there in
    let high = c.requires.sums.bounded.high c.args.i c.requires.arc in
    let full = c.requires.sums.bounded.full in
    let arc = c.requires.arc in
    less_most c.args.flow.now c.take.new.numbers c.args.i k (to_z w128 (of_z w128 c.args.amount)) c.take.ensures (omega (arith, full, arc)) (omega (arith, ints, some, there, high))

pub returns-clause-sums : goal.returns-clause-sums
returns-clause-sums c =
    let some = c.requires.some in
    let there = c.requires.there in
    let high = c.requires.sums.bounded.high c.args.i c.requires.arc in
    summed_lower c.args.frame.now c.args.flow.now c.take.new.numbers c.args.sums.now c.add.new.numbers c.add-2.new.numbers c.args.i c.tail.result c.head.result (to_z w128 (of_z w128 c.args.amount))
    (to_z w128 (of_z w128 (pos 0 -ℤ to_z w128 (of_z w128 c.args.amount)))) (to_z w128 (of_z w128 c.args.amount)) c.requires.sums c.requires.arc
    (omega (arith, ints, some, there, high)) (omega (arith, ints, some, there, high)) c.take.ensures c.tail.ensures.value c.head.ensures.value c.tail.ensures.node c.head.ensures.node
    c.add.ensures c.add-2.ensures (omega (arith, ints, some, there, high)) refl
