use Rattle.std.proofs.Common.{◌<◌, length, arith}
use Rattle.pf_share.specs.Grouped.{group_net}
use Rattle.pf_share.proofs.GroupRoom.{front_more, front_stops, ends_full, arc_there}
use Rattle.pf_share.proofs.grouped.push_arcs.Goals as goal

pub arcs-init : goal.arcs-init
arcs-init c = record { within = omega arith; front = c.requires.none }

pub arcs-preserved : goal.arcs-preserved
arcs-preserved c =
    let p = c.args.sharing.now in
    let a = c.args.answer.now in
    let b = c.nodes-count.ensures.limits in
    let many = c.arcs-count.ensures.value in
    let low : c.arcs.i < length p.ends = omega (arith, c.arcs-test.true, many) in
    let full = ends_full p a b c.requires.shape c.requires.some in
    record {
      within = omega (arith, low);
      front = front_more (group_net p a.levels a.groups).ends _ _ (0, 0) _ c.arcs.i (omega (arith, low, full)) c.arcs.invariant.front c.in_ok-push.ensures.items
          (arc_there p a b c.requires.shape c.requires.some c.arcs.i c.tail-tail.result c.head_in-head.result low c.tail-tail.ensures.value c.head_in-head.ensures);
    }

pub returns : goal.returns
returns c =
    let p = c.args.sharing.now in
    let a = c.args.answer.now in
    let many = c.arcs-count.ensures.value in
    let within = c.arcs.invariant.within in
    front_stops (group_net p a.levels a.groups).ends _ (length p.ends) c.arcs.i (omega (arith, c.arcs-test.false, many, within)) c.arcs.invariant.front
