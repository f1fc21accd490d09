use Rattle.std.proofs.Common.{◌+◌, drop}
use Rattle.pf_text.specs.Spelling.{table_text}
use Rattle.pf_io.proofs.PrintedLemmas.{HasPrinted}
use Rattle.pf_io.proofs.printing.print_rows.Given as goal

abbrev pub invariant-rows : goal.invariant-rows
invariant-rows g l = HasPrinted l.fn.out l.out (table_text l.word l.first l.table) (table_text l.word (l.first + l.j) (drop l.j l.table))
