use Rattle.pf_piece.proofs.Openings.{IsKeeping}
use Rattle.pf_piece.proofs.opening.keep.Given as goal

abbrev pub invariant-arcs : goal.invariant-arcs
invariant-arcs l = IsKeeping l.net.arcs l.places l.kept l.count l.i
