use Rattle.std.proofs.Common.{◌+◌, ◌-◌}
use Rattle.pf_sweep.specs.Rows.{IsUnderway, IsAhead}
use Rattle.pf_sweep.proofs.rows.add_rows.Given as goal

abbrev pub invariant-blocks-2 : goal.invariant-blocks-2
invariant-blocks-2 g l = IsUnderway l.net l.k l.from l.sweep l.rows × IsAhead l.net l.k l.from l.ahead

abbrev pub decreases-blocks-2 : goal.decreases-blocks-2
decreases-blocks-2 g l = l.k + 1 - l.from
