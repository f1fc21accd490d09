use Rattle.pf_reinforce.proofs.Examples.{triangle_certified, two_parts_serve, cheap_edge_crosses, other_cost, dear_edge, threshold_left_out, edge_certified, zero_is_reached, zero_is_not_blocked, one_part_blocks_not, triangle_text, edge_text, pairs_text}
use Rattle.pf_reinforce.proofs.laws.worked_reinforcements.Goals as goal

pub returns : goal.returns
returns c = record {
  triangle = triangle_certified;
  two = two_parts_serve;
  cheap = cheap_edge_crosses;
  cost = other_cost;
  dear = dear_edge;
  left_out = threshold_left_out;
  edge = edge_certified;
  zero = zero_is_reached;
  unblocked = zero_is_not_blocked;
  one = one_part_blocks_not;
  triangle_text = triangle_text;
  edge_text = edge_text;
  pairs_text = pairs_text;
}
