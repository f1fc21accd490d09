use Rattle.std.proofs.Common.{map, arith, ap, ◌∙◌}
use Rattle.pf_sweep.specs.Rows.{turned_row}
use Rattle.pf_sweep.proofs.turning.turned_each.Goals as goal
use Rattle.pf_model.proofs.Sums.{take_whole}

pub returns : goal.returns
returns c = c.rows.invariant ∙ ap (map turned_row) (take_whole c.args.rows.now c.rows.i (omega arith))
