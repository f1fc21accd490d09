use Rattle.std.proofs.Common.{◌≡◌, ℕ, suc, ◌+◌, ◌<◌, length}
use Rattle.std.specs.Prelude.{◌+ℤ◌, ◌-ℤ◌, ◌*ℤ◌}
use Rattle.pf_model.specs.Cut.{at_arc}
use Rattle.pf_dense.proofs.newton.write_charges.Given as goal

abbrev pub invariant-edges : goal.invariant-edges
invariant-edges l = record {
  full : length l.charges ≡ length l.fn.charges;
  each : (k : ℕ) → k < l.i →
      at_arc l.charges k
      ≡ ((l.at.q *ℤ at_arc l.graph.weights k) +ℤ at_arc l.flow (l.graph.nodes + l.graph.nodes + (k + k)))
      -ℤ at_arc l.flow (l.graph.nodes + l.graph.nodes + suc (k + k));
}
