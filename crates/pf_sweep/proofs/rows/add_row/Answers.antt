use Rattle.pf_sweep.proofs.Rowing.{rows_more}
use Rattle.pf_sweep.proofs.rows.add_row.Goals as goal

pub returns-clause-rows : goal.returns-clause-rows
returns-clause-rows c =
    rows_more c.args.net.now c.args.k c.args.j c.args.rows.now c.push.new.self c.row-row.result c.requires.rows c.in_ok-push.ensures.added
    (rw (c.requires.net, c.requires.unit, c.requires.at) at c.row-row.ensures.right)
