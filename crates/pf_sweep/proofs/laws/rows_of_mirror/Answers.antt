use Rattle.pf_sweep.proofs.TurnedRows.{row_of_mirror, rows_of_mirror}
use Rattle.pf_sweep.proofs.laws.rows_of_mirror.Goals as goal

pub returns : goal.returns
returns c = record { one = row_of_mirror; all = rows_of_mirror }
