use Rattle.std.proofs.Common.{◌≡◌, ℕ, ◌<◌, ◌≤◌, cond}
use Rattle.std.specs.Prelude.{◌==◌}
use Rattle.pf_graph.specs.Labels.{label}
use Rattle.pf_trees.proofs.labels.rename.Given as goal

abbrev pub invariant-labels : goal.invariant-labels
invariant-labels l = record {
  done : (u : ℕ) → u < l.v → label l.labels u ≡ cond (label l.initial.labels u == l.p) l.q (label l.initial.labels u);
  rest : (u : ℕ) → l.v ≤ u → label l.labels u ≡ label l.initial.labels u;
}
