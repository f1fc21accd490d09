use Rattle.std.proofs.Common.{◌<◌, length, arith}
use Rattle.std.specs.Prelude.{pos}
use Rattle.std.proofs.lemmas.Int.{ints}
use Rattle.pf_share.specs.Grouped.{group_net}
use Rattle.pf_share.proofs.GroupRoom.{front_next, front_begins, front_ends, capacities_many, supply_there, supply_from, balance_is, brought_high, brought_least}
use Rattle.pf_share.proofs.grouped.push_supplies.Goals as goal

pub nodes-init : goal.nodes-init
nodes-init c = front_begins (group_net c.args.sharing.now c.args.answer.now.levels c.args.answer.now.groups).capacities _ (length c.args.sharing.now.ends) c.requires.before

pub supply_of-requires-clause-low : goal.supply_of-requires-clause-low
supply_of-requires-clause-low c =
    let p = c.args.sharing.now in
    let a = c.args.answer.now in
    let b = c.nodes-count.ensures.limits in
    let many = c.nodes-count.ensures.value in
    let low : c.nodes.v < p.nodes = omega (arith, c.nodes-test.true, many) in
    let e = balance_is p a b c.requires.shape c.requires.some c.args.balances.now c.nodes.v c.requires.still c.requires.balances low in
    let m = brought_high p a b c.requires.shape c.requires.some c.nodes.v low in
    omega (arith, ints, e, m)

pub supply_of-requires-clause-high : goal.supply_of-requires-clause-high
supply_of-requires-clause-high c =
    let p = c.args.sharing.now in
    let a = c.args.answer.now in
    let b = c.nodes-count.ensures.limits in
    let many = c.nodes-count.ensures.value in
    let low : c.nodes.v < p.nodes = omega (arith, c.nodes-test.true, many) in
    let e = balance_is p a b c.requires.shape c.requires.some c.args.balances.now c.nodes.v c.requires.still c.requires.balances low in
    let m = brought_least p a b c.requires.shape c.requires.some c.nodes.v low in
    omega (arith, ints, e, m)

pub nodes-preserved : goal.nodes-preserved
nodes-preserved c =
    let p = c.args.sharing.now in
    let a = c.args.answer.now in
    let b = c.nodes-count.ensures.limits in
    let many = c.nodes-count.ensures.value in
    let low : c.nodes.v < p.nodes = omega (arith, c.nodes-test.true, many) in
    let full = capacities_many p a b c.requires.shape c.requires.some in
    let range = c.supply_of.type_inv in
    let is = c.supply_of.ensures in
    let here = supply_from p a b c.requires.shape c.requires.some c.args.balances.now c.nodes.v c.sink-sink.result c.requires.still c.requires.balances low c.sink-sink.ensures.value in
    front_next (group_net p a.levels a.groups).capacities _ _ (pos 0) _ (length p.ends) c.nodes.v (omega (arith, low, full)) c.nodes.invariant c.in_ok-push.ensures.items
    (supply_there p a b c.requires.shape c.requires.some c.nodes.v _ low (omega (arith, ints, range, is, here)))

pub returns : goal.returns
returns c =
    let p = c.args.sharing.now in
    let a = c.args.answer.now in
    let many = c.nodes-count.ensures.value in
    front_ends (group_net p a.levels a.groups).capacities _ (length p.ends) c.nodes.v p.nodes
    (capacities_many p a c.nodes-count.ensures.limits c.requires.shape c.requires.some) (omega (arith, c.nodes-test.false, many)) c.nodes.invariant
