use Rattle.std.proofs.Common.{◌≡◌, ◌<◌, length, arith, ap, ◌∙◌, set, to_z, of_z}
use Rattle.std.specs.Prelude.{◌+ℤ◌}
use Rattle.std.proofs.lemmas.Int.{ints}
use Rattle.pf_model.specs.Cut.{at_arc}
use Rattle.pf_frame.proofs.Balances.{balances_start, balances_more, balances_all, raised_within}
use Rattle.pf_frame.proofs.flow.balance.Goals as goal

pub arcs-init : goal.arcs-init
arcs-init c = balances_start _ _ _ c.fill.new.self (length c.args.sums.now) (c.fill.ensures.after (λ y e. e)) c.requires.places

pub raise-requires-clause-low : goal.raise-requires-clause-low
raise-requires-clause-low c = let h = c.arcs.invariant.low c.tail.result c.tail.ensures.node in omega (arith, ints, h, c.arcs-i-end.ensures.few)

pub raise-requires-clause-high : goal.raise-requires-clause-high
raise-requires-clause-high c = let h = c.arcs.invariant.high c.tail.result c.tail.ensures.node in omega (arith, ints, h, c.arcs-i-end.ensures.few)

pub raise-requires-in-arcs-clause-low : goal.raise-requires-in-arcs-clause-low
raise-requires-in-arcs-clause-low c =
    let low = c.requires.flow.low c.arcs.i (omega arith) in
    let high = c.requires.flow.high c.arcs.i (omega arith) in
    let e : to_z mir.Syntax.w128 (of_z mir.Syntax.w128 (at_arc c.args.flow.now c.arcs.i)) ≡ at_arc c.args.flow.now c.arcs.i = omega (arith, ints) in
    let places : c.tail.result < length c.arcs.sums = omega (arith, c.tail.ensures.node, c.arcs.invariant.places) in
    (raised_within c.arcs.sums c.raise.new.sums c.tail.result c.head.result c.arcs.i (at_arc c.args.flow.now c.arcs.i)
    (c.raise.ensures ∙ ap (λ x. set c.arcs.sums c.tail.result (at_arc c.arcs.sums c.tail.result +ℤ x)) e) places (omega (arith, c.arcs-i-end.ensures.few)) low high
    (c.arcs.invariant.low c.head.result c.head.ensures.node) (c.arcs.invariant.high c.head.result c.head.ensures.node)).0

pub raise-requires-in-arcs-clause-high : goal.raise-requires-in-arcs-clause-high
raise-requires-in-arcs-clause-high c =
    let low = c.requires.flow.low c.arcs.i (omega arith) in
    let high = c.requires.flow.high c.arcs.i (omega arith) in
    let e : to_z mir.Syntax.w128 (of_z mir.Syntax.w128 (at_arc c.args.flow.now c.arcs.i)) ≡ at_arc c.args.flow.now c.arcs.i = omega (arith, ints) in
    let places : c.tail.result < length c.arcs.sums = omega (arith, c.tail.ensures.node, c.arcs.invariant.places) in
    (raised_within c.arcs.sums c.raise.new.sums c.tail.result c.head.result c.arcs.i (at_arc c.args.flow.now c.arcs.i)
    (c.raise.ensures ∙ ap (λ x. set c.arcs.sums c.tail.result (at_arc c.arcs.sums c.tail.result +ℤ x)) e) places (omega (arith, c.arcs-i-end.ensures.few)) low high
    (c.arcs.invariant.low c.head.result c.head.ensures.node) (c.arcs.invariant.high c.head.result c.head.ensures.node)).1

pub arcs-preserved : goal.arcs-preserved
arcs-preserved c =
    let low = c.requires.flow.low c.arcs.i (omega arith) in
    let high = c.requires.flow.high c.arcs.i (omega arith) in
    let e : to_z mir.Syntax.w128 (of_z mir.Syntax.w128 (at_arc c.args.flow.now c.arcs.i)) ≡ at_arc c.args.flow.now c.arcs.i = omega (arith, ints) in
    balances_more c.args.frame.now.nodes c.args.frame.now.ends c.args.flow.now c.arcs.sums c.raise.new.sums _ c.arcs.i c.tail.result c.head.result _ c.arcs.invariant
    c.requires.flow.full (omega arith) c.tail.ensures.value c.head.ensures.value c.tail.ensures.node c.head.ensures.node low high
    (c.raise.ensures ∙ ap (λ x. set c.arcs.sums c.tail.result (at_arc c.arcs.sums c.tail.result +ℤ x)) e) c.raise-in-arcs.ensures (omega (arith, ints, low, high))

pub returns : goal.returns
returns c = balances_all _ _ _ _ c.arcs.i c.arcs.invariant c.requires.flow.full (omega arith)
