use Rattle.pf_piece.proofs.Lifts.{capacity_lifts, line_lifts}
use Rattle.pf_piece.proofs.laws.capacity_lifts.Goals as goal

pub returns : goal.returns
returns c = record { capacity = capacity_lifts; line = line_lifts }
