use Rattle.pf_io.proofs.PrintedLemmas.{HasPrinted}
use Rattle.pf_principal.specs.Text.{levels_text, levels_rows}
use Rattle.pf_principal.proofs.Printed.{levels_left}
use Rattle.pf_principal.proofs.text.print_levels.Given as goal

abbrev pub invariant-levels : goal.invariant-levels
invariant-levels g l = HasPrinted l.fn.out l.out (levels_text 0 (levels_rows l.nodes l.vectors l.splits)) (levels_left l.nodes l.vectors l.splits l.j)
