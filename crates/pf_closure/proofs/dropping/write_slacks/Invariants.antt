use Rattle.std.proofs.Common.{◌≡◌, ℕ, ◌<◌, ◌≤◌, ◌^◌, length}
use Rattle.std.specs.Prelude.{◌-ℤ◌, ◌≤ℤ◌, pos, neg_ℤ}
use Rattle.pf_model.specs.Cut.{at_arc}
use Rattle.pf_model.specs.Flow.{flow_value}
use Rattle.pf_closure.specs.Certificate.{reduced_cost, net_inflow}
use Rattle.pf_closure.proofs.dropping.write_slacks.Given as goal

-- the first items have their slack, and the others what needs take from them less what they bring
abbrev pub invariant-items : goal.invariant-items
invariant-items l = record {
  full : length l.items.costs ≤ length l.sums;
  done : (v : ℕ) → v < l.i → at_arc l.sums v ≡ reduced_cost l.items l.at v -ℤ net_inflow l.items l.routing v;
  rest : (v : ℕ) → l.i ≤ v → v < length l.items.costs → at_arc l.sums v ≡ flow_value l.items.needs l.routing v;
  low : (v : ℕ) → l.i ≤ v → v < length l.items.costs → neg_ℤ (pos (2 ^ 119)) ≤ℤ at_arc l.sums v;
  high : (v : ℕ) → l.i ≤ v → v < length l.items.costs → at_arc l.sums v ≤ℤ pos (2 ^ 119);
}
