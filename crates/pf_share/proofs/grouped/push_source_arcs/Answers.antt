use Rattle.std.proofs.Common.{◌<◌, length, arith}
use Rattle.pf_share.specs.Grouped.{group_net}
use Rattle.pf_share.proofs.GroupRoom.{front_next, front_begins, front_ends, ends_full, source_there}
use Rattle.pf_share.proofs.grouped.push_source_arcs.Goals as goal

pub nodes-init : goal.nodes-init
nodes-init c = front_begins (group_net c.args.sharing.now c.args.answer.now.levels c.args.answer.now.groups).ends _ (length c.args.sharing.now.ends) c.requires.before

pub nodes-preserved : goal.nodes-preserved
nodes-preserved c =
    let p = c.args.sharing.now in
    let a = c.args.answer.now in
    let b = c.nodes-count.ensures.limits in
    let many = c.nodes-count.ensures.value in
    let low : c.nodes.v < p.nodes = omega (arith, c.nodes-test.true, many) in
    let full = ends_full p a b c.requires.shape c.requires.some in
    front_next (group_net p a.levels a.groups).ends _ _ (0, 0) _ (length p.ends) c.nodes.v (omega (arith, low, full)) c.nodes.invariant c.in_ok-push.ensures.items
    (source_there p a b c.requires.shape c.requires.some c.nodes-count.result c.nodes.v many low)

pub returns : goal.returns
returns c =
    let p = c.args.sharing.now in
    let a = c.args.answer.now in
    let many = c.nodes-count.ensures.value in
    front_ends (group_net p a.levels a.groups).ends _ (length p.ends) c.nodes.v p.nodes
    (ends_full p a c.nodes-count.ensures.limits c.requires.shape c.requires.some) (omega (arith, c.nodes-test.false, many)) c.nodes.invariant
