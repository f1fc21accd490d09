use Rattle.std.specs.Prelude.{ℕ, ◌<◌, get_or}
use Rattle.pf_principal.specs.Reading.{HasValue, before_step}
use Rattle.pf_principal.specs.declared.steps.Step.{Step}
use Rattle.pf_principal.proofs.steps.have_values.Given as goal

abbrev pub invariant-steps : goal.invariant-steps
invariant-steps l = (j : ℕ) (d : Step) → j < l.i → HasValue l.graph (before_step l.first l.steps j) (get_or l.steps j d)
