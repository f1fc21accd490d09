use Rattle.std.proofs.Common.{arith}
use Rattle.pf_sweep.proofs.Rowing.{seen_earlier}
use Rattle.pf_sweep.proofs.rows.add_block.Goals as goal

pub add_next-requires-clause-seen : goal.add_next-requires-clause-seen
add_next-requires-clause-seen g c =
    seen_earlier c.args.net.now c.args.k c.args.end.now.row c.each.j c.args.end.now.p c.args.end.now.least c.frame.ensures.built.monotone (omega arith) c.requires.seen
