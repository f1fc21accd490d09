use Rattle.pf_model.proofs.Rows.{first_line, second_line, third_line, first_break, five_nodes_is, wrong_five_nodes}
use Rattle.pf_model.proofs.laws.worked.five_nodes_and_seven_arcs.Goals as goal

pub returns : goal.returns
returns c = record {
  first = first_line;
  second = second_line;
  third = third_line;
  meeting = first_break;
  curve = five_nodes_is;
  changed = wrong_five_nodes;
}
