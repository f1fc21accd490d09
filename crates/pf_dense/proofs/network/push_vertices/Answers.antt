use Rattle.std.proofs.Common.{◌≡◌, ◌<◌, length, arith, to_z, of_z, refl}
use Rattle.std.proofs.lemmas.Int.{ints}
use Rattle.pf_model.specs.Cut.{at_arc}
use Rattle.pf_dense.specs.Reduction.{total_weight, sink_node}
use Rattle.pf_dense.proofs.ArcLemmas.{pushed_vertex}
use Rattle.pf_dense.proofs.DensityLemmas.{total_range, rest_of, rest_fits}
use Rattle.pf_dense.proofs.network.push_vertices.Goals as goal

pub overflow_sub-rest : goal.overflow_sub-rest
overflow_sub-rest c =
    let g = c.args.graph.now in
    let low : c.vertices.v < g.nodes = omega (arith, c.vertices-count.ensures.value, c.vertices-test.true) in
    let t = total_range g c.vertices-count.ensures.limits in
    let w = c.requires.weights in
    let e = w.each c.vertices.v low in
    let l = w.low c.vertices.v low in
    let h = w.high c.vertices.v low in
    rest_fits _ (at_arc c.args.weights.now c.vertices.v) (total_weight g) (at_arc c.args.weights.now c.vertices.v) c.requires.total refl t.0 t.1 l h

pub vertices-preserved : goal.vertices-preserved
vertices-preserved c =
    let g = c.args.graph.now in
    let limits = c.vertices-count.ensures.limits in
    let low : c.vertices.v < g.nodes = omega (arith, c.vertices-count.ensures.value, c.vertices-test.true) in
    let there : c.vertices.v < length g.costs = omega (arith, low, limits.graph.costs_full) in
    let t = total_range g limits in
    let tl = t.0 in
    let th = t.1 in
    let w = c.requires.weights in
    let e = w.each c.vertices.v low in
    let l = w.low c.vertices.v low in
    let h = w.high c.vertices.v low in
    let is = c.requires.total in
    let rest = rest_of c.args.total (at_arc c.args.weights.now c.vertices.v) (total_weight g) _ is e tl th (omega (arith, ints, e, l)) (omega (arith, ints, e, h)) in
    let whole : to_z mir.Syntax.w64 (of_z mir.Syntax.w64 c.args.total) ≡ total_weight g = omega (arith, ints, is, tl, th) in
    pushed_vertex g (sink_node g) _ c.vertices.v g.costs _ _ _ _ _ _ _ _ there (omega (arith, c.vertices-count.ensures.value)) rest whole c.cost.ensures
    c.vertices.invariant c.in_ok-push.ensures.items c.in_ok-push-2.ensures.items c.source_arc-first.ensures c.sink_arc-second.ensures
