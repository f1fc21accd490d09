use Rattle.pf_trees.proofs.WorkedOut.{pair_is_two_trees, pair_is_not_three}
use Rattle.pf_trees.proofs.laws.two_vertices.Goals as goal

pub returns : goal.returns
returns c = record {
  trees = pair_is_two_trees;
  blocked = pair_is_not_three;
}
