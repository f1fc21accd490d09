use Rattle.pf_model.proofs.Rows.{wrong_breakpoint, wrong_flow, wrong_cut, no_breakpoint, wrong_shut_row}
use Rattle.pf_model.proofs.laws.worked.three_nodes_changed.Goals as goal

pub returns : goal.returns
returns c = record {
  breakpoint = wrong_breakpoint;
  flow = wrong_flow;
  cut = wrong_cut;
  left_out = no_breakpoint;
  shut = wrong_shut_row;
}
