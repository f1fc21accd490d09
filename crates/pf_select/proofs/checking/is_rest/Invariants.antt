use Rattle.std.proofs.Common.{◌≡◌, ℕ, ◌<◌}
use Rattle.std.specs.Prelude.{not}
use Rattle.pf_model.specs.Cut.{has}
use Rattle.pf_select.proofs.checking.is_rest.Given as goal

abbrev pub invariant-parts : goal.invariant-parts
invariant-parts l = (v : ℕ) → v < l.i → has l.set v ≡ not (has l.marks v)
