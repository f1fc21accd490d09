use Rattle.pf_piece.proofs.Openings.{IsPlacing}
use Rattle.pf_piece.proofs.opening.write_places.Given as goal

abbrev pub invariant-nodes : goal.invariant-nodes
invariant-nodes l = IsPlacing l.small l.large l.places l.next l.v
