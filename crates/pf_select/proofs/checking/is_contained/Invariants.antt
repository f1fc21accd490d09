use Rattle.std.proofs.Common.{◌≡◌, ℕ, ◌<◌, true}
use Rattle.pf_model.specs.Cut.{has}
use Rattle.pf_select.proofs.checking.is_contained.Given as goal

abbrev pub invariant-parts : goal.invariant-parts
invariant-parts l = (v : ℕ) → v < l.i → has l.set v ≡ true → has l.other v ≡ true
