use Rattle.std.proofs.Common.{arith}
use Rattle.std.specs.Prelude.{◌<ℤ◌, pos}
use Rattle.std.proofs.lemmas.Int.{ints}
use Rattle.pf_model.specs.Cut.{at_arc}
use Rattle.pf_carry.proofs.Lowering.{summed_fits, lowered_short}
use Rattle.pf_carry.proofs.trimming.give_less.Goals as goal

pub returns-after-there-short-clause-lowered : goal.returns-after-there-short-clause-lowered
returns-after-there-short-clause-lowered c = λ s t p q.
    let f = summed_fits c.args.frame.now c.args.flow.now c.args.sums.now c.args.v c.requires.sums (omega (arith, c.arcs.ensures.value, c.arcs.ensures.few)) c.requires.node in
    let low = f.low in
    let high = f.high in
    let more : pos 0 <ℤ at_arc c.args.sums.now c.args.v = omega (arith, ints, c.if-short-gt0.true, low, high) in
    lowered_short c.args.frame.now c.args.flow.now c.lower.new.flow c.args.sums.now s t c.args.v c.requires.sums c.requires.node p q more c.lower.ensures.most
