use Rattle.pf_io.proofs.PrintedLemmas.{HasPrinted}
use Rattle.pf_principal.proofs.Printed.{steps_left}
use Rattle.pf_principal.proofs.text.print_steps.Given as goal

abbrev pub invariant-steps : goal.invariant-steps
invariant-steps g l = HasPrinted l.fn.out l.out (steps_left l.graph l.levels l.partitions 0) (steps_left l.graph l.levels l.partitions l.j)
