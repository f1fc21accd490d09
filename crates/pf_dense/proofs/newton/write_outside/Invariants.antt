use Rattle.std.proofs.Common.{◌≡◌, ℕ, suc, ◌<◌, length}
use Rattle.std.specs.Prelude.{not}
use Rattle.pf_model.specs.Cut.{has}
use Rattle.pf_dense.proofs.newton.write_outside.Given as goal

abbrev pub invariant-vertices : goal.invariant-vertices
invariant-vertices l = record {
  full : length l.set ≡ length l.fn.set;
  done : (u : ℕ) → u < l.v → has l.set u ≡ not (has l.side (suc u));
}
