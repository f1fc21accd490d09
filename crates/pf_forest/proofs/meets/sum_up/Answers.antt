use Rattle.std.proofs.Common.{arith}
use Rattle.std.proofs.lemmas.Int.{ints}
use Rattle.pf_forest.proofs.Giving.{total_starts, total_more, total_all}
use Rattle.pf_forest.proofs.meets.sum_up.Goals as goal

pub edges-init : goal.edges-init
edges-init c = total_starts _ _

pub overflow_add-sum : goal.overflow_add-sum
overflow_add-sum c =
    let least = c.requires.low c.edges.i (omega arith) in
    let top = c.requires.high c.edges.i (omega arith) in
    let low = c.edges.invariant.low in
    let high = c.edges.invariant.high in
    omega (arith, ints, least, top, low, high, c.arcs-i-end.ensures.few)

pub edges-preserved : goal.edges-preserved
edges-preserved c =
    let least = c.requires.low c.edges.i (omega arith) in
    let top = c.requires.high c.edges.i (omega arith) in
    let low = c.edges.invariant.low in
    let high = c.edges.invariant.high in
    total_more _ _ c.edges.i _ _ c.requires.full (omega arith) c.edges.invariant least top (omega (arith, ints, least, top, low, high, c.arcs-i-end.ensures.few))

pub returns : goal.returns
returns c = total_all _ _ c.edges.i _ c.requires.full (omega arith) c.edges.invariant
