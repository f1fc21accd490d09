use Rattle.std.proofs.Common.{◌≡◌, take}
use Rattle.pf_trees.proofs.trees_of_graph.ends_of.Given as goal

abbrev pub invariant-edges : goal.invariant-edges
invariant-edges l = l.ends.items ≡ take l.i l.graph.ends
