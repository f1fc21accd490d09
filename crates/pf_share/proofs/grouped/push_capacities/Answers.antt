use Rattle.std.proofs.Common.{◌<◌, length, arith}
use Rattle.std.specs.Prelude.{pos}
use Rattle.std.proofs.lemmas.Int.{ints}
use Rattle.pf_share.specs.Grouped.{group_net}
use Rattle.pf_share.proofs.GroupRoom.{front_more, front_stops, capacities_many, capacity_there}
use Rattle.pf_share.proofs.grouped.push_capacities.Goals as goal

pub arcs-init : goal.arcs-init
arcs-init c = record { within = omega arith; front = c.requires.none }

pub arcs-preserved : goal.arcs-preserved
arcs-preserved c =
    let p = c.args.sharing.now in
    let a = c.args.answer.now in
    let b = c.nodes-count.ensures.limits in
    let many = c.arcs-count.ensures.value in
    let range = c.capacity_in.type_inv in
    let is = c.capacity_in.ensures in
    let low : c.arcs.i < length p.ends = omega (arith, c.arcs-test.true, many) in
    let full = capacities_many p a b c.requires.shape c.requires.some in
    record {
      within = omega (arith, low);
      front = front_more (group_net p a.levels a.groups).capacities _ _ (pos 0) _ c.arcs.i (omega (arith, low, full)) c.arcs.invariant.front c.in_ok-push.ensures.items
          (capacity_there p a b c.requires.shape c.requires.some c.arcs.i _ low (omega (arith, ints, range, is)));
    }

pub returns : goal.returns
returns c =
    let p = c.args.sharing.now in
    let a = c.args.answer.now in
    let many = c.arcs-count.ensures.value in
    let within = c.arcs.invariant.within in
    front_stops (group_net p a.levels a.groups).capacities _ (length p.ends) c.arcs.i (omega (arith, c.arcs-test.false, many, within)) c.arcs.invariant.front
