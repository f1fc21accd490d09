use Rattle.std.proofs.Common.{◌≡◌, ℕ, ◌<◌}
use Rattle.pf_graph.specs.Labels.{label}
use Rattle.pf_trees.proofs.labels.apart.Given as goal

abbrev pub invariant-vertices : goal.invariant-vertices
invariant-vertices l = (u : ℕ) → u < l.v → label l.labels u ≡ u
