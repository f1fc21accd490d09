use Rattle.pf_sweep.proofs.Rowing.{ahead_on}
use Rattle.pf_sweep.proofs.rows.add_rows.Goals as goal

pub look_ahead-end-requires-clause-ahead : goal.look_ahead-end-requires-clause-ahead
look_ahead-end-requires-clause-ahead g c =
    ahead_on c.args.net.now c.args.k c.blocks-2.from c.last_of-to.result c.blocks-2.ahead c.frame.ensures.built.monotone c.blocks-2.invariant.1 c.last_of-to.ensures.order
