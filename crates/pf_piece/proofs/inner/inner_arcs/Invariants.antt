use Rattle.std.proofs.Common.{◌≡◌, take}
use Rattle.pf_piece.specs.Piece.{piece_of, with_inner_end}
use Rattle.pf_piece.proofs.inner.inner_arcs.Given as goal

abbrev pub invariant-arcs : goal.invariant-arcs
invariant-arcs l = l.arcs.items ≡ with_inner_end (take l.i (piece_of l.piece).arcs)
