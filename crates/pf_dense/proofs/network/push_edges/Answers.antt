use Rattle.std.proofs.Common.{◌<◌, length, arith}
use Rattle.pf_dense.proofs.ArcLemmas.{pushed_edge}
use Rattle.pf_dense.proofs.network.push_edges.Goals as goal

pub edges-preserved : goal.edges-preserved
edges-preserved c =
    let g = c.args.graph.now in
    let low : c.edges.i < length g.ends = omega (arith, c.edges-i-end.ensures, c.edges-test.true) in
    pushed_edge g.ends g.weights c.edges.i _ _ c.args.arcs.now.items _ _ _ _ _ _ c.vertices.ensures.limits.graph.weights_full low
    c.edge-first.ensures.first c.edge-first.ensures.second c.edge-first.ensures.weight c.edges.invariant c.in_ok-push.ensures.items c.in_ok-push-2.ensures.items
    c.edge_arc-along.ensures c.edge_arc-back.ensures
