use Rattle.std.proofs.Common.{◌≡◌, ℕ, ◌<◌, false}
use Rattle.pf_model.specs.Cut.{has}
use Rattle.pf_select.proofs.checking.is_empty.Given as goal

abbrev pub invariant-parts : goal.invariant-parts
invariant-parts l = (v : ℕ) → v < l.i → has l.set v ≡ false
