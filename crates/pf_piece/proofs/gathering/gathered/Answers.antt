use Rattle.pf_piece.specs.Held.{placed}
use Rattle.pf_piece.proofs.Rows.{gathered_begins}
use Rattle.pf_piece.proofs.gathering.gathered.Goals as goal

pub nodes-init : goal.nodes-init
nodes-init c = gathered_begins (placed c.args.places.now) c.args.net.now.arcs c.new-arcs.result.items c.new-arcs.ensures.items
