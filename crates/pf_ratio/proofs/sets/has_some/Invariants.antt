use Rattle.std.proofs.Common.{◌≡◌, ℕ, ◌<◌, false}
use Rattle.pf_model.specs.Cut.{has}
use Rattle.pf_ratio.proofs.sets.has_some.Given as goal

abbrev pub invariant-places : goal.invariant-places
invariant-places l = (u : ℕ) → u < l.v → has l.chosen u ≡ false
