use Rattle.pf_piece.specs.Cores.{IsGathered}
use Rattle.pf_piece.specs.Held.{placed}
use Rattle.pf_piece.proofs.gathering.gathered.Given as goal

abbrev pub invariant-nodes : goal.invariant-nodes
invariant-nodes l = IsGathered (placed l.places) l.v l.net.arcs l.arcs.items
