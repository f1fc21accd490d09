use Rattle.std.proofs.Common.{arith}
use Rattle.std.proofs.lemmas.Int.{ints}
use Rattle.pf_sweep.proofs.Rowing.{near_of}
use Rattle.pf_sweep.proofs.rows.numerator.Goals as goal

pub step-requires-clause-low : goal.step-requires-clause-low
step-requires-clause-low c =
    let m = c.frame.ensures.built.monotone in
    let near = near_of c.args.net.now c.args.k c.requires.some m.low m.high c.requires.ends c.requires.fine in
    let e = rw (c.lo-lo.ensures, c.hi-hi.ensures) at c.cross-low.ensures in
    let size = near.low in
    omega (arith, ints, e, size)

pub step-requires-clause-high : goal.step-requires-clause-high
step-requires-clause-high c =
    let m = c.frame.ensures.built.monotone in
    let near = near_of c.args.net.now c.args.k c.requires.some m.low m.high c.requires.ends c.requires.fine in
    let e = rw (c.lo-lo.ensures, c.hi-hi.ensures) at c.cross-high.ensures in
    let size = near.high in
    omega (arith, ints, e, size)
