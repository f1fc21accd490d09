use Rattle.std.proofs.Common.{◌≡◌, ℕ, ◌<◌, ◌≤◌, not}
use Rattle.pf_model.specs.Cut.{has}
use Rattle.pf_closure.proofs.solving.turn.Given as goal

abbrev pub invariant-items : goal.invariant-items
invariant-items l = record {
  done : (k : ℕ) → k < l.i → has l.marks k ≡ not (has l.fn.marks k);
  rest : (k : ℕ) → l.i ≤ k → has l.marks k ≡ has l.fn.marks k;
}
