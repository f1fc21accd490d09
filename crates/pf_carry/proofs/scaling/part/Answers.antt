use Rattle.std.proofs.Common.{arith, to_z, of_z}
use Rattle.std.specs.Prelude.{◌≡◌, ◌*ℤ◌}
use Rattle.std.proofs.lemmas.Int.{ints, to_z-of_z}
use mir.Syntax.{w128}
use Rattle.pf_carry.proofs.Floors.{part_most}
use Rattle.pf_carry.proofs.scaling.part.Goals as goal

pub returns-clause-floor : goal.returns-clause-floor
returns-clause-floor c =
    let p = rw (to_z-of_z w128 c.args.rest c.ranges.rest, to_z-of_z w128 c.args.to c.ranges.to) at c.times.ensures.value in
    let low = c.times.ensures.low in
    let high = c.times.ensures.high in
    let b : to_z w128 (of_z w128 c.times.result) ≡ c.args.rest *ℤ c.args.to = omega (arith, ints, p, low, high) in
    let f = rw (b, to_z-of_z w128 c.args.from c.ranges.from) at c.quotient.ensures.floor in
    let m = part_most c.args.from c.args.to c.args.rest c.quotient.result c.requires.from.low c.requires.to.low c.requires.high f in
    let least = c.quotient.ensures.low in
    let most = c.requires.to.high in
    let back : to_z w128 (of_z w128 c.quotient.result) ≡ c.quotient.result = omega (arith, ints, m, least, most) in
    rw back f

pub returns-clause-most : goal.returns-clause-most
returns-clause-most c =
    let p = rw (to_z-of_z w128 c.args.rest c.ranges.rest, to_z-of_z w128 c.args.to c.ranges.to) at c.times.ensures.value in
    let low = c.times.ensures.low in
    let high = c.times.ensures.high in
    let b : to_z w128 (of_z w128 c.times.result) ≡ c.args.rest *ℤ c.args.to = omega (arith, ints, p, low, high) in
    let f = rw (b, to_z-of_z w128 c.args.from c.ranges.from) at c.quotient.ensures.floor in
    let m = part_most c.args.from c.args.to c.args.rest c.quotient.result c.requires.from.low c.requires.to.low c.requires.high f in
    let least = c.quotient.ensures.low in
    let most = c.requires.to.high in
    omega (arith, ints, m, least, most)
