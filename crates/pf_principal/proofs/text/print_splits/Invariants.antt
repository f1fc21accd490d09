use Rattle.std.proofs.Common.{drop, take}
use Rattle.pf_io.proofs.PrintedLemmas.{HasPrinted}
use Rattle.pf_principal.specs.Text.{splits_text}
use Rattle.pf_principal.proofs.text.print_splits.Given as goal

abbrev pub invariant-roots : goal.invariant-roots
invariant-roots g l = HasPrinted l.fn.out l.out (splits_text l.j 0 (take l.count (drop l.first l.splits))) (splits_text l.j l.r (drop l.r (take l.count (drop l.first l.splits))))
