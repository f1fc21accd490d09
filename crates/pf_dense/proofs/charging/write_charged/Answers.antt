use Rattle.std.proofs.Common.{◌<◌, length, arith}
use Rattle.std.proofs.lemmas.Int.{ints}
use Rattle.pf_dense.proofs.ChargingLemmas.{edge_shared, raised_high, charging_goes_on, charging_begins, charging_ends}
use Rattle.pf_dense.proofs.charging.write_charged.Goals as goal

pub edges-init : goal.edges-init
edges-init c = charging_begins c.args.graph.now c.args.at.now c.args.charges.now c.fill.new.self (length c.args.sums.now) (c.fill.ensures.after (λ y e. e)) c.requires.places

pub raise-requires-clause-high : goal.raise-requires-clause-high
raise-requires-clause-high c =
    let g = c.args.graph.now in
    let limits = c.vertices.ensures.limits in
    let low : c.edges.i < length g.ends = omega (arith, c.edges-i-end.ensures, c.edges-test.true) in
    let there = limits.graph.graph.tails c.edges.i low in
    let h = c.edges.invariant.high c.edge-first.result.0 (omega (arith, there, c.edge-first.ensures.first)) in
    omega (arith, ints, h, low, limits.edges)

pub raise-requires-in-edges-clause-low : goal.raise-requires-in-edges-clause-low
raise-requires-in-edges-clause-low c =
    let g = c.args.graph.now in
    let limits = c.vertices.ensures.limits in
    let low : c.edges.i < length g.ends = omega (arith, c.edges-i-end.ensures, c.edges-test.true) in
    let tail = limits.graph.graph.tails c.edges.i low in
    let head = limits.graph.graph.heads c.edges.i low in
    let s = edge_shared g c.args.at.now c.args.charges.now c.edges.i _ c.whole_charge.result limits.graph c.requires.charges low
    c.edge-first.ensures.weight c.whole_charge.ensures.value c.whole_charge.ensures.high in
    (raised_high c.edges.sums c.raise.new.sums c.edge-first.result.0 c.edge-first.result.1 c.edges.i _ c.raise.ensures
    (omega (arith, tail, c.edge-first.ensures.first, c.edges.invariant.places)) (omega (arith, low, limits.edges)) s.first_low s.first_high
    (c.edges.invariant.low c.edge-first.result.1 (omega (arith, head, c.edge-first.ensures.second)))
    (c.edges.invariant.high c.edge-first.result.1 (omega (arith, head, c.edge-first.ensures.second)))).0

pub raise-requires-in-edges-clause-high : goal.raise-requires-in-edges-clause-high
raise-requires-in-edges-clause-high c =
    let g = c.args.graph.now in
    let limits = c.vertices.ensures.limits in
    let low : c.edges.i < length g.ends = omega (arith, c.edges-i-end.ensures, c.edges-test.true) in
    let tail = limits.graph.graph.tails c.edges.i low in
    let head = limits.graph.graph.heads c.edges.i low in
    let s = edge_shared g c.args.at.now c.args.charges.now c.edges.i _ c.whole_charge.result limits.graph c.requires.charges low
    c.edge-first.ensures.weight c.whole_charge.ensures.value c.whole_charge.ensures.high in
    (raised_high c.edges.sums c.raise.new.sums c.edge-first.result.0 c.edge-first.result.1 c.edges.i _ c.raise.ensures
    (omega (arith, tail, c.edge-first.ensures.first, c.edges.invariant.places)) (omega (arith, low, limits.edges)) s.first_low s.first_high
    (c.edges.invariant.low c.edge-first.result.1 (omega (arith, head, c.edge-first.ensures.second)))
    (c.edges.invariant.high c.edge-first.result.1 (omega (arith, head, c.edge-first.ensures.second)))).1

pub raise-requires-in-edges-clause-amount_low : goal.raise-requires-in-edges-clause-amount_low
raise-requires-in-edges-clause-amount_low c =
    let g = c.args.graph.now in
    let limits = c.vertices.ensures.limits in
    let low : c.edges.i < length g.ends = omega (arith, c.edges-i-end.ensures, c.edges-test.true) in
    (edge_shared g c.args.at.now c.args.charges.now c.edges.i _ c.whole_charge.result limits.graph c.requires.charges low
    c.edge-first.ensures.weight c.whole_charge.ensures.value c.whole_charge.ensures.high).second_low

pub raise-requires-in-edges-clause-amount_high : goal.raise-requires-in-edges-clause-amount_high
raise-requires-in-edges-clause-amount_high c =
    let g = c.args.graph.now in
    let limits = c.vertices.ensures.limits in
    let low : c.edges.i < length g.ends = omega (arith, c.edges-i-end.ensures, c.edges-test.true) in
    let h = (edge_shared g c.args.at.now c.args.charges.now c.edges.i _ c.whole_charge.result limits.graph c.requires.charges low
    c.edge-first.ensures.weight c.whole_charge.ensures.value c.whole_charge.ensures.high).second_high in
    omega (arith, ints, h)

pub edges-preserved : goal.edges-preserved
edges-preserved c =
    let g = c.args.graph.now in
    let limits = c.vertices.ensures.limits in
    let low : c.edges.i < length g.ends = omega (arith, c.edges-i-end.ensures, c.edges-test.true) in
    let s = edge_shared g c.args.at.now c.args.charges.now c.edges.i _ c.whole_charge.result limits.graph c.requires.charges low
    c.edge-first.ensures.weight c.whole_charge.ensures.value c.whole_charge.ensures.high in
    charging_goes_on g c.args.at.now c.args.charges.now c.edges.sums c.raise.new.sums _ c.edges.i c.edge-first.result.0 c.edge-first.result.1 _ _
    limits.graph c.requires.charges c.edges.invariant low c.edge-first.ensures.first c.edge-first.ensures.second s c.raise.ensures c.raise-in-edges.ensures

pub returns : goal.returns
returns c =
    charging_ends c.args.graph.now c.args.at.now c.args.charges.now c.edges.sums c.edges.i c.vertices.ensures.limits.graph c.requires.charges c.edges.invariant
    (omega (arith, c.edges-i-end.ensures, c.edges-test.false))
