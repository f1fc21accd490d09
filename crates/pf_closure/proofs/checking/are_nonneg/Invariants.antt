use Rattle.std.proofs.Common.{ℕ, ◌<◌}
use Rattle.std.specs.Prelude.{◌≤ℤ◌, pos}
use Rattle.pf_model.specs.Cut.{at_arc}
use Rattle.pf_closure.proofs.checking.are_nonneg.Given as goal

abbrev pub invariant-items : goal.invariant-items
invariant-items l = (v : ℕ) → v < l.i → pos 0 ≤ℤ at_arc l.sums v
