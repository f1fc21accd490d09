use Rattle.pf_frame.proofs.table.FlowTable.make.Goals as goal
use Rattle.pf_frame.proofs.Rows.{rows_more}

pub rows-preserved : goal.rows-preserved
rows-preserved c = rows_more c.rows.table.items c.push.new.self.items c.in_ok-vec.field-0 c.rows._i c.args.width c.rows.invariant c.in_ok-push.ensures.items (c.in_ok-vec.ensures.items_if_clones_equal (λ y e. e))
