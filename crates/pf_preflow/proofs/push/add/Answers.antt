use Rattle.std.proofs.Common.{slice_set, arith, ap}
use Rattle.std.proofs.lemmas.Int.{ints}
use Rattle.pf_preflow.proofs.push.add.Goals as goal

pub returns : goal.returns
returns c =
    let low = c.requires.fits.low in
    let high = c.requires.fits.high in
    ap (slice_set c.args.numbers.now c.args.place) (omega (arith, ints, low, high))
