use Rattle.std.proofs.Common.{◌≡◌, ◌+◌, arith, ap, sym, subst, to_z, of_z}
use Rattle.std.specs.Prelude.{◌+ℤ◌, pos}
use Rattle.std.proofs.lemmas.Int.{ints}
use Rattle.pf_net.specs.Limits.{IsBuilt}
use Rattle.pf_dense.specs.Reduction.{total_weight}
use Rattle.pf_dense.proofs.NetBuilt.{net_built, same_net}
use Rattle.pf_dense.proofs.network.dense_net.Goals as goal

pub from_arcs-requires : goal.from_arcs-requires
from_arcs-requires c =
    let g = c.args.graph.now in
    let l = c.total_weight-total.ensures.low in
    let h = c.total_weight-total.ensures.high in
    let e = c.total_weight-total.ensures.value in
    let f = c.from.ensures in
    let from : c.from.result ≡ total_weight g = omega (arith, ints, l, h, e, f) in
    let total : to_z mir.Syntax.w128 (of_z mir.Syntax.w128 (to_z mir.Syntax.w128 (of_z mir.Syntax.w128 c.from.result) +ℤ pos 1)) ≡ total_weight g +ℤ pos 1 =
    omega (arith, ints, from, l, h, e) in
    let same = same_net g _ c.from_integer-low.result c.from_integer-high.result _ c.push_vertices.new.arcs.items c.push_edges.new.arcs.items
    (ap (λ n. n + 1) c.vertices-count.ensures.value) c.from_integer-low.ensures c.from_integer-high.ensures total c.in_ok-push_vertices.ensures c.in_ok-push_edges.ensures in
    subst IsBuilt (sym same) (net_built g c.vertices-count.ensures.limits)
