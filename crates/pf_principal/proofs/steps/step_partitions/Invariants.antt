use Rattle.std.proofs.Common.{◌≡◌, ◌∷◌}
use Rattle.std.specs.Prelude.{map}
use Rattle.pf_principal.proofs.steps.step_partitions.Given as goal

abbrev pub invariant-steps : goal.invariant-steps
invariant-steps l = l.partitions ≡ l.fn.first ∷ map (λ s. s.partition) l.yielded
