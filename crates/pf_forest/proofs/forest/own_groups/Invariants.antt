use Rattle.std.proofs.Common.{◌≡◌, ℕ, ◌<◌, length}
use Rattle.pf_graph.specs.Labels.{label}
use Rattle.pf_forest.proofs.forest.own_groups.Given as goal

abbrev pub invariant-vertices : goal.invariant-vertices
invariant-vertices l = record {
  full : length l.groups.items ≡ l.v;
  own : (w : ℕ) → w < l.v → label l.groups.items w ≡ w;
}
