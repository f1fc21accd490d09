use Rattle.std.proofs.Common.{◌≡◌, take}
use Rattle.pf_dense.specs.Reduction.{sink_node, vertex_arcs}
use Rattle.pf_dense.proofs.network.push_vertices.Given as goal

abbrev pub invariant-vertices : goal.invariant-vertices
invariant-vertices l = l.arcs.items ≡ vertex_arcs l.graph (sink_node l.graph) 0 (take l.v l.graph.costs)
