use Rattle.std.proofs.Common.{◌≡◌, ◌++◌, take}
use Rattle.pf_dense.specs.Reduction.{edge_arcs}
use Rattle.pf_dense.proofs.network.push_edges.Given as goal

abbrev pub invariant-edges : goal.invariant-edges
invariant-edges l = l.arcs.items ≡ l.fn.arcs.items ++ edge_arcs (take l.i l.graph.ends) (take l.i l.graph.weights)
