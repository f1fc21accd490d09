use Rattle.std.proofs.Common.{◌≡◌, arith, ap, ◌∙◌, set, to_z, of_z}
use Rattle.std.specs.Prelude.{pos, ◌+ℤ◌}
use Rattle.std.proofs.lemmas.Int.{ints}
use Rattle.std.proofs.lemmas.List.Elements.{All-get_or}
use Rattle.pf_model.specs.Answer.{IsWithinSize}
use Rattle.pf_model.specs.Limits.{capacity_bound}
use Rattle.pf_model.specs.Cut.{at_arc}
use Rattle.pf_share.proofs.CheckLemmas.{balances_begin, within_bound, raised_bound, balances_more, balances_all}
use Rattle.pf_share.proofs.checking.add_arcs.Goals as goal

pub arcs-init : goal.arcs-init
arcs-init c = balances_begin c.args.sharing.now c.args.answer.now c.args.sums.now c.requires.own c.requires.places

pub raise-requires-clause-low : goal.raise-requires-clause-low
raise-requires-clause-low c =
    let few = c.arcs-count.ensures.few in
    (within_bound c.arcs.i (at_arc c.arcs.sums c.tail.result) (omega (arith, c.arcs-test.true, few)) (c.arcs.invariant.low c.tail.result c.tail.ensures.node)
    (c.arcs.invariant.high c.tail.result c.tail.ensures.node)).0

pub raise-requires-in-arcs-clause-low : goal.raise-requires-in-arcs-clause-low
raise-requires-in-arcs-clause-low c =
    let few = c.arcs-count.ensures.few in
    let many = c.arcs-count.ensures.value in
    let wide = c.requires.shape.flow_full in
    let size = All-get_or (IsWithinSize capacity_bound) c.args.answer.now.flow c.arcs.i (pos 0) (omega (arith, c.arcs-test.true, many, wide)) c.requires.shape.flow in
    let l = size.low in
    let h = size.high in
    let is = c.number-number.ensures in
    let e : to_z mir.Syntax.w128 (of_z mir.Syntax.w128 c.number-number.result) ≡ c.number-number.result = omega (arith, ints, l, h, is) in
    let step = c.raise.ensures ∙ ap (λ x. set c.arcs.sums c.tail.result (at_arc c.arcs.sums c.tail.result +ℤ x)) e in
    let places = c.arcs.invariant.places in
    let node = c.tail.ensures.node in
    (raised_bound c.arcs.i c.tail.result c.head.result c.arcs.sums c.raise.new.sums c.number-number.result step (omega (arith, node, places))
    (omega (arith, c.arcs-test.true, few)) (omega (arith, ints, l, is)) (omega (arith, ints, h, is)) (c.arcs.invariant.low c.head.result c.head.ensures.node)
    (c.arcs.invariant.high c.head.result c.head.ensures.node)).0

pub raise-requires-in-arcs-clause-high : goal.raise-requires-in-arcs-clause-high
raise-requires-in-arcs-clause-high c =
    let few = c.arcs-count.ensures.few in
    let many = c.arcs-count.ensures.value in
    let wide = c.requires.shape.flow_full in
    let size = All-get_or (IsWithinSize capacity_bound) c.args.answer.now.flow c.arcs.i (pos 0) (omega (arith, c.arcs-test.true, many, wide)) c.requires.shape.flow in
    let l = size.low in
    let h = size.high in
    let is = c.number-number.ensures in
    let e : to_z mir.Syntax.w128 (of_z mir.Syntax.w128 c.number-number.result) ≡ c.number-number.result = omega (arith, ints, l, h, is) in
    let step = c.raise.ensures ∙ ap (λ x. set c.arcs.sums c.tail.result (at_arc c.arcs.sums c.tail.result +ℤ x)) e in
    let places = c.arcs.invariant.places in
    let node = c.tail.ensures.node in
    (raised_bound c.arcs.i c.tail.result c.head.result c.arcs.sums c.raise.new.sums c.number-number.result step (omega (arith, node, places))
    (omega (arith, c.arcs-test.true, few)) (omega (arith, ints, l, is)) (omega (arith, ints, h, is)) (c.arcs.invariant.low c.head.result c.head.ensures.node)
    (c.arcs.invariant.high c.head.result c.head.ensures.node)).1

pub arcs-preserved : goal.arcs-preserved
arcs-preserved c =
    let many = c.arcs-count.ensures.value in
    let wide = c.requires.shape.flow_full in
    let size = All-get_or (IsWithinSize capacity_bound) c.args.answer.now.flow c.arcs.i (pos 0) (omega (arith, c.arcs-test.true, many, wide)) c.requires.shape.flow in
    let l = size.low in
    let h = size.high in
    let is = c.number-number.ensures in
    let e : to_z mir.Syntax.w128 (of_z mir.Syntax.w128 c.number-number.result) ≡ c.number-number.result = omega (arith, ints, l, h, is) in
    let step = c.raise.ensures ∙ ap (λ x. set c.arcs.sums c.tail.result (at_arc c.arcs.sums c.tail.result +ℤ x)) e in
    let al = c.brought-amount.ensures.low in
    let ah = c.brought-amount.ensures.high in
    balances_more c.args.sharing.now c.args.answer.now c.arcs.i c.tail.result c.head.result c.arcs.sums c.raise.new.sums c.raise-in-arcs.new.sums
    c.number-number.result _ c.brought-amount.result c.arcs.invariant wide c.nodes-count.ensures.limits.problem.capacities_full (omega (arith, c.arcs-test.true, many)) c.tail.ensures.value
    c.head.ensures.value c.tail.ensures.node c.head.ensures.node step c.raise-in-arcs.ensures is (omega (arith, ints, al, ah)) c.brought-amount.ensures.value
    (omega (arith, ints, l, is)) (omega (arith, ints, h, is)) al ah

pub returns : goal.returns
returns c =
    let many = c.arcs-count.ensures.value in
    balances_all c.args.sharing.now c.args.answer.now c.arcs.i c.arcs.sums c.arcs.invariant c.requires.shape.flow_full c.nodes-count.ensures.limits.problem.capacities_full (omega (arith, c.arcs-test.false, many))
