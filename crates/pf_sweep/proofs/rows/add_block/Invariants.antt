use Rattle.pf_sweep.specs.Rows.{IsUnderway}
use Rattle.pf_sweep.proofs.rows.add_block.Given as goal

abbrev pub invariant-each : goal.invariant-each
invariant-each g l = IsUnderway l.net l.k l.j l.sweep l.rows
