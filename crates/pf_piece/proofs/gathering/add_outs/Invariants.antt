use Rattle.std.proofs.Common.{◌≡◌, ◌++◌, take, map}
use Rattle.pf_piece.specs.Piece.{arcs_between}
use Rattle.pf_piece.specs.Held.{arc_at, placed}
use Rattle.pf_piece.proofs.gathering.add_outs.Given as goal

abbrev pub invariant-row : goal.invariant-row
invariant-row l = l.arcs.items ≡ l.fn.arcs.items ++ arcs_between (placed l.places) (take l.k (map (λ i. arc_at l.net.arcs i) l.row))
