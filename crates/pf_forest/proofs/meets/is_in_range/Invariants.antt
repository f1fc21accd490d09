use Rattle.std.proofs.Common.{ℕ, ◌<◌}
use Rattle.std.specs.Prelude.{◌*ℤ◌}
use Rattle.pf_model.specs.Cut.{at_arc}
use Rattle.pf_forest.specs.Testing.{IsBetween}
use Rattle.pf_forest.proofs.meets.is_in_range.Given as goal

abbrev pub invariant-edges : goal.invariant-edges
invariant-edges l = (k : ℕ) → k < l.i → IsBetween (at_arc l.vector k) (l.level.q *ℤ at_arc l.graph.weights k)
