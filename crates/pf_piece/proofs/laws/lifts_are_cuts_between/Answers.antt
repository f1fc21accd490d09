use Rattle.pf_piece.proofs.Lifts.{lift_is_between}
use Rattle.pf_piece.proofs.Choice.{between_is_lift}
use Rattle.pf_piece.proofs.laws.lifts_are_cuts_between.Goals as goal

pub returns : goal.returns
returns c = record { between = lift_is_between; lift = between_is_lift }
