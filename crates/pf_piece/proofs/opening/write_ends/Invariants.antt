use Rattle.std.proofs.Common.{◌≡◌, take, map, length}
use Rattle.pf_model.specs.Network.{ends_of}
use Rattle.pf_piece.specs.Piece.{renamed}
use Rattle.pf_piece.specs.Held.{placed, arc_at}
use Rattle.pf_piece.proofs.opening.write_ends.Given as goal

abbrev pub invariant-arcs : goal.invariant-arcs
invariant-arcs l = record {
  full : length l.ends ≡ length l.kept;
  ends_are : take l.k l.ends ≡ map (λ i. ends_of (renamed (placed l.places) (arc_at l.net.arcs i))) (take l.k l.kept);
}
