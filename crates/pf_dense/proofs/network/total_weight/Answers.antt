use Rattle.std.proofs.Common.{◌<◌, ◌≤◌, length, arith}
use Rattle.std.proofs.lemmas.Int.{ints}
use Rattle.pf_dense.proofs.WeighingLemmas.{total_goes_on, total_ends}
use Rattle.pf_dense.proofs.network.total_weight.Goals as goal

pub edges-preserved : goal.edges-preserved
edges-preserved c =
    let g = c.args.graph.now in
    let limits = c.vertices.ensures.limits in
    let low : c.edges.i < length g.ends = omega (arith, c.edges-i-end.ensures, c.edges-test.true) in
    let most = (limits.weights c.edges.i low).high in
    let is = c.edge-weight.ensures.weight in
    let small : c.edge-weight.result.2 ≤ 1000000 = omega (arith, ints, most, is) in
    let l = c.edges.invariant.low in
    let h = c.edges.invariant.high in
    let few = limits.edges in
    total_goes_on g _ _ c.edges.i c.edge-weight.result.2 limits.graph c.edges.invariant low is small
    (omega (arith, ints, c.from-total.ensures, l, h, low, few, small))

pub returns-clause-value : goal.returns-clause-value
returns-clause-value c =
    total_ends c.args.graph.now _ c.edges.i c.vertices.ensures.limits.graph c.edges.invariant (omega (arith, c.edges-i-end.ensures, c.edges-test.false))
