use Rattle.std.proofs.Common.{arith, to_z, of_z}
use Rattle.std.specs.Prelude.{◌≡◌, ◌+ℤ◌, ◌*ℤ◌, ◌^◌, pos}
use Rattle.std.proofs.lemmas.Int.{ints, to_z-of_z}
use mir.Syntax.{w128}
use Rattle.pf_carry.proofs.Floors.{floor_most, floor_parts}
use Rattle.pf_carry.proofs.scaling.rescaled.Goals as goal

pub remainder-rest-requires-clause-floor : goal.remainder-rest-requires-clause-floor
remainder-rest-requires-clause-floor c =
    let f = rw (to_z-of_z w128 c.args.x c.ranges.x, to_z-of_z w128 c.args.from c.ranges.from) at c.quotient-whole.ensures.floor in
    let m = floor_most c.args.x c.args.from c.quotient-whole.result (pos (2 ^ 75)) c.requires.from.low c.requires.high f in
    let low = c.quotient-whole.ensures.low in
    let e : to_z w128 (of_z w128 c.quotient-whole.result) ≡ c.quotient-whole.result = omega (arith, ints, low, m) in
    rw e c.quotient-whole.ensures.floor

pub times-requires-clause-high : goal.times-requires-clause-high
times-requires-clause-high c =
    let f = rw (to_z-of_z w128 c.args.x c.ranges.x, to_z-of_z w128 c.args.from c.ranges.from) at c.quotient-whole.ensures.floor in
    let m = floor_most c.args.x c.args.from c.quotient-whole.result (pos (2 ^ 75)) c.requires.from.low c.requires.high f in
    let low = c.quotient-whole.ensures.low in
    omega (arith, ints, low, m)

pub overflow_add-result : goal.overflow_add-result
overflow_add-result c =
    let a = c.times.ensures.low in
    let b = c.times.ensures.high in
    let d = c.part.ensures.low in
    let e = c.part.ensures.most in
    let h = c.requires.to.high in
    omega (arith, ints, a, b, d, e, h)

pub returns-clause-low : goal.returns-clause-low
returns-clause-low c =
    let a = c.times.ensures.low in
    let b = c.times.ensures.high in
    let d = c.part.ensures.low in
    let e = c.part.ensures.most in
    let h = c.requires.to.high in
    omega (arith, ints, a, b, d, e, h)

pub returns-clause-floor : goal.returns-clause-floor
returns-clause-floor c =
    let f = rw (to_z-of_z w128 c.args.x c.ranges.x, to_z-of_z w128 c.args.from c.ranges.from) at c.quotient-whole.ensures.floor in
    let m = floor_most c.args.x c.args.from c.quotient-whole.result (pos (2 ^ 75)) c.requires.from.low c.requires.high f in
    let low = c.quotient-whole.ensures.low in
    let whole : to_z w128 (of_z w128 c.quotient-whole.result) ≡ c.quotient-whole.result = omega (arith, ints, low, m) in
    let p = rw (whole, to_z-of_z w128 c.args.to c.ranges.to) at c.times.ensures.value in
    let is = rw (to_z-of_z w128 c.args.x c.ranges.x, to_z-of_z w128 c.args.from c.ranges.from, whole) at c.remainder-rest.ensures.value in
    let rl = c.remainder-rest.ensures.low in
    let rh = c.remainder-rest.ensures.high in
    let fh = c.requires.from.high in
    let rest : to_z w128 (of_z w128 c.remainder-rest.result) ≡ c.remainder-rest.result = omega (arith, ints, rl, rh, fh) in
    let g = rw (rest, to_z-of_z w128 c.args.from c.ranges.from, to_z-of_z w128 c.args.to c.ranges.to) at c.part.ensures.floor in
    let a = c.times.ensures.low in
    let b = c.times.ensures.high in
    let d = c.part.ensures.low in
    let e = c.part.ensures.most in
    let h = c.requires.to.high in
    let sum : to_z w128 (of_z w128 (to_z w128 (of_z w128 c.times.result) +ℤ to_z w128 (of_z w128 c.part.result))) ≡ (c.quotient-whole.result *ℤ c.args.to) +ℤ c.part.result = omega (arith, ints, p, a, b, d, e, h) in
    rw sum (floor_parts c.args.from c.args.to c.quotient-whole.result c.args.x c.remainder-rest.result c.part.result is g)
