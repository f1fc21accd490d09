use Rattle.std.proofs.Common.{drop}
use Rattle.pf_io.proofs.PrintedLemmas.{HasPrinted}
use Rattle.pf_share.specs.Text.{levels_text}
use Rattle.pf_share.proofs.writing.print_levels.Given as goal

abbrev pub invariant-levels : goal.invariant-levels
invariant-levels g l = HasPrinted l.fn.out l.out (levels_text 0 l.levels) (levels_text l.j (drop l.j l.levels))
