use Rattle.std.proofs.Common.{refl}
use Rattle.pf_trees.proofs.WorkedOut.{are_two_trees, circle_is_no_tree, three_trees_blocked}
use Rattle.pf_trees.proofs.laws.four_vertices.Goals as goal

pub returns : goal.returns
returns c = record {
  trees = are_two_trees;
  first = refl;
  second = refl;
  circle = circle_is_no_tree;
  crossing = refl;
  parts = refl;
  blocked = three_trees_blocked;
}
