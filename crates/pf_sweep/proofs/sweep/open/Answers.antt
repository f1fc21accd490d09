use Rattle.std.proofs.Common.{arith, ◌∙◌, length, drop}
use Rattle.std.proofs.lemmas.Int.{ints, to_z-of_z}
use Rattle.pf_sweep.specs.Parameters.{fraction_of}
use Rattle.pf_sweep.proofs.Units.{start_inside}
use Rattle.pf_sweep.proofs.Sweeping.{sweep_of, made_of, serves_of, serves_still}
use Rattle.pf_sweep.proofs.sweep.open.Goals as goal
use mir.Syntax.{w128}
use Rattle.pf_model.proofs.Facts.{lent_back}

pub start_at-requires-clause-inside : goal.start_at-requires-clause-inside
start_at-requires-clause-inside c =
    start_inside c.args.net.now (fraction_of c.start_of-at.result) c.frame-frame.ensures.built.monotone c.start_of-at.ensures.bounds.parameter (rw c.lo.ensures at c.start_of-at.ensures.equal)

pub start_at-requires-clause-room : goal.start_at-requires-clause-room
start_at-requires-clause-room c =
    serves_of c.args.net.now c.frame-frame.result.now c.in_ok-scratch.scratch c.nodes-nodes.result c.arcs-arcs.result c.frame-frame.ensures.frame c.nodes-nodes.ensures.value
    c.arcs-arcs.ensures.value c.in_ok-scratch.ensures.serves

pub invariant_of-result : goal.invariant_of-result
invariant_of-result c =
    let unit = c.start_of-at.ensures.unit ∙ to_z-of_z w128 c.args.unit c.ranges.unit in
    let inside = start_inside c.args.net.now (fraction_of c.start_of-at.result) c.frame-frame.ensures.built.monotone c.start_of-at.ensures.bounds.parameter
    (rw c.lo.ensures at c.start_of-at.ensures.equal) in
    let serves = serves_of c.args.net.now c.frame-frame.result.now c.in_ok-scratch.scratch c.nodes-nodes.result c.arcs-arcs.result c.frame-frame.ensures.frame c.nodes-nodes.ensures.value
    c.arcs-arcs.ensures.value c.in_ok-scratch.ensures.serves in
    let caps = lent_back c.in_ok-room.room.caps.len c.start_at.new.caps (drop (length c.start_at.new.caps) c.in_ok-room.room.caps.items)
    (omega (arith, c.in_ok-room.room.caps.ok.0, c.start_at.auto.caps, c.deref_mut.ensures.len)) in
    let flow = lent_back c.in_ok-room.room.flow.len c.start_at.new.flow (drop (length c.start_at.new.flow) c.in_ok-room.room.flow.items)
    (omega (arith, c.in_ok-room.room.flow.ok.0, c.start_at.auto.flow, c.deref_mut-2.ensures.len)) in
    rw (caps, flow)
    (sweep_of c.args.net.now c.start_of-at.result.unit c.start_of-at.result.p c.start_at.new.engine c.start_at.new.scratch c.start_at.new.caps c.start_at.new.flow c.start_at.new.cut
    c.frame-frame.ensures.built c.start_of-at.ensures.bounds.parameter (omega (arith, ints, unit, c.requires.high)) c.requires.ends inside c.start_at.ensures.engine c.start_at.ensures.caps
    c.start_at.ensures.greatest c.start_at.ensures.valid c.start_at.ensures.low (serves_still _ _ _ _ c.start_at.ensures.places serves) c.start_at.ensures.kept)

pub returns : goal.returns
returns c =
    let unit = c.start_of-at.ensures.unit ∙ to_z-of_z w128 c.args.unit c.ranges.unit in
    let equal = rw c.lo.ensures at c.start_of-at.ensures.equal in
    let inside = start_inside c.args.net.now (fraction_of c.start_of-at.result) c.frame-frame.ensures.built.monotone c.start_of-at.ensures.bounds.parameter equal in
    let flow = lent_back c.in_ok-room.room.flow.len c.start_at.new.flow (drop (length c.start_at.new.flow) c.in_ok-room.room.flow.items)
    (omega (arith, c.in_ok-room.room.flow.ok.0, c.start_at.auto.flow, c.deref_mut-2.ensures.len)) in
    rw flow
    (made_of c.args.net.now c.args.unit c.start_of-at.result c.start_at.new.flow c.start_at.new.engine.labels unit equal inside c.start_at.ensures.greatest c.start_at.ensures.valid c.start_at.ensures.low)
