use Rattle.pf_piece.proofs.Smallest.{ends_are_nested, falling_ends_are_equal, smallest_lifts}
use Rattle.pf_piece.proofs.laws.smallest_lifts.Goals as goal

pub returns : goal.returns
returns c = record { nested = ends_are_nested; equal = falling_ends_are_equal; lifts = smallest_lifts }
