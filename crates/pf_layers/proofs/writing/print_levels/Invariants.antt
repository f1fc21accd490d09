use Rattle.std.proofs.Common.{drop}
use Rattle.pf_io.proofs.PrintedLemmas.{HasPrinted}
use Rattle.pf_layers.specs.Text.{levels_text}
use Rattle.pf_layers.proofs.writing.print_levels.Given as goal

abbrev pub invariant-lines : goal.invariant-lines
invariant-lines g l = HasPrinted l.fn.out l.out (levels_text 0 l.levels) (levels_text l.j (drop l.j l.levels))
