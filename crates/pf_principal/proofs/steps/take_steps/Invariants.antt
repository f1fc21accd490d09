use Rattle.pf_lines.proofs.ItemsTaken.{HasTaken}
use Rattle.pf_principal.proofs.StepLemmas.{step_items}
use Rattle.pf_principal.proofs.steps.take_steps.Given as goal

abbrev pub invariant-steps : goal.invariant-steps
invariant-steps l = HasTaken (step_items l.vertices) l.count l.fn.text l.text l.j l.steps
