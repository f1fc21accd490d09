use Rattle.std.proofs.Common.{◌≡◌, ℕ, ◌<◌, length, get_or}
use Rattle.pf_model.specs.Cut.{has}
use Rattle.pf_piece.proofs.piece.write_lift.Given as goal

abbrev pub invariant-nodes : goal.invariant-nodes
invariant-nodes l = record {
  full : length l.side ≡ length l.places;
  each : (u : ℕ) → u < l.v → has l.side u ≡ has l.piece_side (get_or l.places u 0);
}
