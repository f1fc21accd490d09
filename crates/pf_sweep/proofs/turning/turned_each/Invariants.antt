use Rattle.std.proofs.Common.{◌≡◌, take}
use Rattle.std.specs.Prelude.{map}
use Rattle.pf_sweep.specs.Rows.{turned_row}
use Rattle.pf_sweep.proofs.turning.turned_each.Given as goal

abbrev pub invariant-rows : goal.invariant-rows
invariant-rows l = l.made ≡ map turned_row (take l.i l.rows)
