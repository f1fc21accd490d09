use Rattle.std.proofs.Common.{◌≡◌, ℕ, ◌<◌}
use Rattle.std.specs.Prelude.{pos}
use Rattle.pf_model.specs.Cut.{at_arc}
use Rattle.pf_trees.specs.Slots.{at, tree_number}
use Rattle.pf_trees.proofs.grow.number.Given as goal

abbrev pub invariant-edges : goal.invariant-edges
invariant-edges l = (y : ℕ) → y < l.x → at_arc l.numbers y ≡ pos (tree_number l.width l.total (at l.place y))
