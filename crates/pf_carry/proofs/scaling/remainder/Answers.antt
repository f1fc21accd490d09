use Rattle.std.proofs.Common.{arith}
use Rattle.std.specs.Prelude.{◌^◌, pos}
use Rattle.std.proofs.lemmas.Int.{ints, to_z-of_z}
use mir.Syntax.{w128}
use Rattle.pf_carry.proofs.Floors.{floor_most}
use Rattle.pf_carry.proofs.scaling.remainder.Goals as goal

pub times-requires-clause-high : goal.times-requires-clause-high
times-requires-clause-high c =
    let m = floor_most c.args.x c.args.d c.args.whole (pos (2 ^ 75)) c.requires.unit.low c.requires.high c.requires.floor in
    let low = c.requires.low in
    omega (arith, ints, m, low)

pub overflow_sub-result : goal.overflow_sub-result
overflow_sub-result c =
    let p = rw (to_z-of_z w128 c.args.whole c.ranges.whole, to_z-of_z w128 c.args.d c.ranges.d) at c.times.ensures.value in
    let low = c.requires.floor.low in
    let high = c.requires.floor.high in
    omega (arith, ints, p, low, high, c.times.ensures.low, c.times.ensures.high)

pub returns-clause-value : goal.returns-clause-value
returns-clause-value c =
    let p = rw (to_z-of_z w128 c.args.whole c.ranges.whole, to_z-of_z w128 c.args.d c.ranges.d) at c.times.ensures.value in
    let low = c.requires.floor.low in
    let high = c.requires.floor.high in
    omega (arith, ints, p, low, high, c.times.ensures.low, c.times.ensures.high)

pub returns-clause-low : goal.returns-clause-low
returns-clause-low c =
    let p = rw (to_z-of_z w128 c.args.whole c.ranges.whole, to_z-of_z w128 c.args.d c.ranges.d) at c.times.ensures.value in
    let low = c.requires.floor.low in
    let high = c.requires.floor.high in
    omega (arith, ints, p, low, high, c.times.ensures.low, c.times.ensures.high)

pub returns-clause-high : goal.returns-clause-high
returns-clause-high c =
    let p = rw (to_z-of_z w128 c.args.whole c.ranges.whole, to_z-of_z w128 c.args.d c.ranges.d) at c.times.ensures.value in
    let low = c.requires.floor.low in
    let high = c.requires.floor.high in
    omega (arith, ints, p, low, high, c.times.ensures.low, c.times.ensures.high)
