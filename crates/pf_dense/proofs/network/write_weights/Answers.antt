use Rattle.std.proofs.Common.{◌<◌, length, arith}
use Rattle.std.proofs.lemmas.Int.{ints}
use Rattle.pf_dense.proofs.WeighingLemmas.{weighing_begins, weighing_goes_on, weighing_ends, raised_high}
use Rattle.pf_dense.proofs.network.write_weights.Goals as goal

pub edges-init : goal.edges-init
edges-init c = weighing_begins c.args.graph.now c.fill.new.self (length c.args.sums.now) (c.fill.ensures.after (λ y e. e)) c.requires

pub raise-requires-in-edges-clause-low : goal.raise-requires-in-edges-clause-low
raise-requires-in-edges-clause-low c =
    let g = c.args.graph.now in
    let limits = c.vertices.ensures.limits in
    let low : c.edges.i < length g.ends = omega (arith, c.edges-i-end.ensures, c.edges-test.true) in
    let tail = limits.graph.graph.tails c.edges.i low in
    let head = limits.graph.graph.heads c.edges.i low in
    let most = (limits.weights c.edges.i low).high in
    let is = c.edge-first.ensures.weight in
    (raised_high c.edges.sums c.raise.new.sums c.edge-first.result.0 c.edge-first.result.1 c.edges.i c.edge-first.result.2 c.raise.ensures
    (omega (arith, tail, c.edge-first.ensures.first, c.edges.invariant.full)) (omega (arith, low, limits.edges)) (omega (arith, ints, most, is))
    (c.edges.invariant.low c.edge-first.result.1 (omega (arith, head, c.edge-first.ensures.second)))
    (c.edges.invariant.high c.edge-first.result.1 (omega (arith, head, c.edge-first.ensures.second)))).0

pub raise-requires-in-edges-clause-high : goal.raise-requires-in-edges-clause-high
raise-requires-in-edges-clause-high c =
    let g = c.args.graph.now in
    let limits = c.vertices.ensures.limits in
    let low : c.edges.i < length g.ends = omega (arith, c.edges-i-end.ensures, c.edges-test.true) in
    let tail = limits.graph.graph.tails c.edges.i low in
    let head = limits.graph.graph.heads c.edges.i low in
    let most = (limits.weights c.edges.i low).high in
    let is = c.edge-first.ensures.weight in
    (raised_high c.edges.sums c.raise.new.sums c.edge-first.result.0 c.edge-first.result.1 c.edges.i c.edge-first.result.2 c.raise.ensures
    (omega (arith, tail, c.edge-first.ensures.first, c.edges.invariant.full)) (omega (arith, low, limits.edges)) (omega (arith, ints, most, is))
    (c.edges.invariant.low c.edge-first.result.1 (omega (arith, head, c.edge-first.ensures.second)))
    (c.edges.invariant.high c.edge-first.result.1 (omega (arith, head, c.edge-first.ensures.second)))).1

pub edges-preserved : goal.edges-preserved
edges-preserved c =
    let g = c.args.graph.now in
    let limits = c.vertices.ensures.limits in
    let low : c.edges.i < length g.ends = omega (arith, c.edges-i-end.ensures, c.edges-test.true) in
    let most = (limits.weights c.edges.i low).high in
    let is = c.edge-first.ensures.weight in
    weighing_goes_on g c.edges.sums c.raise.new.sums _ c.edges.i c.edge-first.result.0 c.edge-first.result.1 c.edge-first.result.2 limits.graph c.edges.invariant low
    c.edge-first.ensures.first c.edge-first.ensures.second is (omega (arith, ints, most, is)) c.raise.ensures c.raise-in-edges.ensures

pub returns : goal.returns
returns c =
    weighing_ends c.args.graph.now c.edges.sums c.edges.i c.vertices.ensures.limits.graph c.edges.invariant (omega (arith, c.edges-i-end.ensures, c.edges-test.false))
    (omega (arith, c.edges.auto.i-end, c.edges-i-end.ensures, c.vertices.ensures.limits.edges))
