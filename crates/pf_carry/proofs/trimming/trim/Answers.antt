use Rattle.std.proofs.Common.{arith}
use Rattle.pf_carry.proofs.Emptying.{fewer_give}
use Rattle.pf_carry.proofs.trimming.trim.Goals as goal

pub turns-smaller : goal.turns-smaller
turns-smaller c =
    fewer_give c.args.frame.now c.args.s c.args.t c.args.flow.now c.turns.flow c.empty.new.flow c.turns.sums c.turns.v c.turns.invariant (omega arith) c.empty.ensures.most c.empty.ensures.none
