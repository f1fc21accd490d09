use Rattle.std.proofs.Common.{◌≡◌, ℕ, ◌<◌}
use Rattle.std.specs.Prelude.{not}
use Rattle.pf_model.specs.Cut.{has}
use Rattle.pf_ratio.proofs.sets.is_rest.Given as goal

abbrev pub invariant-places : goal.invariant-places
invariant-places l = (u : ℕ) → u < l.v → has l.chosen u ≡ not (has l.marks u)
