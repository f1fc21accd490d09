use Rattle.std.proofs.Common.{◌≡◌, take}
use Rattle.std.specs.Prelude.{map}
use Rattle.pf_principal.proofs.steps.step_levels.Given as goal

abbrev pub invariant-steps : goal.invariant-steps
invariant-steps l = l.levels ≡ map (λ s. s.level.at) (take l.step-index l.steps)
