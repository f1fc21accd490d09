use Rattle.std.proofs.Common.{drop}
use Rattle.pf_sweep.specs.Text.{rows_text}
use Rattle.pf_io.proofs.PrintedLemmas.{HasPrinted}
use Rattle.pf_sweep.proofs.writing.print_rows.Given as goal

abbrev pub invariant-rows : goal.invariant-rows
invariant-rows g l = HasPrinted l.fn.out l.out (rows_text 0 l.rows) (rows_text l.j (drop l.j l.rows))
