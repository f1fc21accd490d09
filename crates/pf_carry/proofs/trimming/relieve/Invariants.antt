use Rattle.std.proofs.Common.{◌≡◌, ◌≢◌, ℕ}
use Rattle.pf_model.specs.Digraph.{arcs_out}
use Rattle.pf_carry.specs.Trimming.{IsSummed, IsLowered}
use Rattle.pf_carry.proofs.trimming.relieve.Given as goal

abbrev pub invariant-into_sink : goal.invariant-into_sink
invariant-into_sink l = record {
  sums : IsSummed l.frame l.flow l.sums;
  lowered : (s t : ℕ) → l.v ≢ s → l.v ≢ t → IsLowered l.frame s t l.fn.flow l.flow;
  items : l.i-items ≡ arcs_out l.frame l.v;
}

abbrev pub invariant-others : goal.invariant-others
invariant-others l = record {
  sums : IsSummed l.frame l.flow l.sums;
  lowered : (s t : ℕ) → l.v ≢ s → l.v ≢ t → IsLowered l.frame s t l.fn.flow l.flow;
  items : l.i-items ≡ arcs_out l.frame l.v;
}
