use Rattle.std.proofs.Common.{◌≡◌, ℕ, ◌<◌, length}
use Rattle.std.specs.Prelude.{◌*ℤ◌}
use Rattle.pf_model.specs.Cut.{at_arc}
use Rattle.pf_forest.proofs.forest.write_goals.Given as goal

abbrev pub invariant-edges : goal.invariant-edges
invariant-edges l = record {
  full : length l.goals ≡ length l.graph.ends;
  each : (k : ℕ) → k < l.i → at_arc l.goals k ≡ l.q *ℤ at_arc l.graph.weights k;
}
