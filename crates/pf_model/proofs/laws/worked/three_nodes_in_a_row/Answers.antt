use Rattle.pf_model.proofs.Rows.{rising_row_is, steep_row_is, shut_row_is, falling_row_is}
use Rattle.pf_model.proofs.laws.worked.three_nodes_in_a_row.Goals as goal

pub returns : goal.returns
returns c = record {
  rising = rising_row_is;
  steep = steep_row_is;
  shut = shut_row_is;
  falling = falling_row_is;
}
