use Rattle.std.proofs.Common.{ℕ, ◌<◌}
use Rattle.std.specs.Prelude.{◌≤ℤ◌}
use Rattle.pf_model.specs.Cut.{at_arc}
use Rattle.pf_forest.proofs.meets.are_fair.Given as goal

abbrev pub invariant-vertices : goal.invariant-vertices
invariant-vertices l = (w : ℕ) → w < l.v → at_arc l.sums w ≤ℤ l.limit
