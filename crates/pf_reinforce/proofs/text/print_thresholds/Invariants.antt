use Rattle.std.proofs.Common.{drop}
use Rattle.pf_io.proofs.PrintedLemmas.{HasPrinted}
use Rattle.pf_reinforce.specs.Text.{thresholds_text}
use Rattle.pf_reinforce.proofs.text.print_thresholds.Given as goal

abbrev pub invariant-thresholds : goal.invariant-thresholds
invariant-thresholds g l = HasPrinted l.fn.out l.out (thresholds_text 0 l.thresholds l.parts) (thresholds_text l.j (drop l.j l.thresholds) (drop l.j l.parts))
