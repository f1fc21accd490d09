use Rattle.pf_tests.proofs.TestedSides.{nested_here}
use Rattle.pf_tests.proofs.pieces.three_nodes_and_four_arcs.Goals as goal

pub between-requires : goal.between-requires
between-requires g c = nested_here c.in_ok-net.net c.in_ok-net.ensures.nodes c.in_ok-net.ensures.source c.in_ok-net.ensures.sink
