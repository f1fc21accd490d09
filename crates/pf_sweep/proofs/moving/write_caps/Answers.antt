use Rattle.std.proofs.Common.{◌≡◌, ◌<◌, length, arith, ap, sym, ◌∙◌, to_z, of_z, set}
use Rattle.std.proofs.lemmas.Int.{ints}
use Rattle.std.proofs.lemmas.List.{length-map}
use Rattle.pf_model.specs.Network.{capacity_at}
use Rattle.pf_model.proofs.Affine.{no_arc}
use Rattle.pf_sweep.specs.Parameters.{of_units}
use Rattle.pf_sweep.specs.Moving.{caps_of}
use Rattle.pf_sweep.proofs.Onward.{written_begins, written_more, written_ends}
use Rattle.pf_sweep.proofs.Touching.{cap_found, arc_counted}
use Rattle.pf_sweep.proofs.moving.write_caps.Goals as goal
use mir.Syntax.{w128}

pub each-init : goal.each-init
each-init c = written_begins _ c.args.caps.now (c.requires.caps ∙ sym (length-map c.args.net.now.arcs (capacity_at (of_units c.args.at.now.unit c.args.at.now.p))))

pub capacity-cap-requires-clause-small : goal.capacity-cap-requires-clause-small
capacity-cap-requires-clause-small c =
    let counted = arc_counted c.args.net.now c.frame-frame.result.now c.arcs-count.result c.frame-frame.ensures.frame c.arcs-count.ensures.value in
    rw c.arc-arc.ensures (c.frame-frame.ensures.built.limits.each c.each.i no_arc (omega (arith, counted)))

pub put-requires-clause-low : goal.put-requires-clause-low
put-requires-clause-low c =
    let counted = arc_counted c.args.net.now c.frame-frame.result.now c.arcs-count.result c.frame-frame.ensures.frame c.arcs-count.ensures.value in
    let low : c.each.i < length c.args.net.now.arcs = omega (arith, counted) in
    let cap = cap_found c.args.net.now c.args.at.now.unit c.args.at.now.p c.each.i c.capacity-cap.result c.arc-arc.result c.requires.wanted low c.arc-arc.ensures c.capacity-cap.ensures in
    omega (arith, ints, cap.low, cap.high)

pub put-requires-clause-high : goal.put-requires-clause-high
put-requires-clause-high c =
    let counted = arc_counted c.args.net.now c.frame-frame.result.now c.arcs-count.result c.frame-frame.ensures.frame c.arcs-count.ensures.value in
    let low : c.each.i < length c.args.net.now.arcs = omega (arith, counted) in
    let cap = cap_found c.args.net.now c.args.at.now.unit c.args.at.now.p c.each.i c.capacity-cap.result c.arc-arc.result c.requires.wanted low c.arc-arc.ensures c.capacity-cap.ensures in
    omega (arith, ints, cap.low, cap.high)

pub each-preserved : goal.each-preserved
each-preserved c =
    let counted = arc_counted c.args.net.now c.frame-frame.result.now c.arcs-count.result c.frame-frame.ensures.frame c.arcs-count.ensures.value in
    let low : c.each.i < length c.args.net.now.arcs = omega (arith, counted) in
    let cap = cap_found c.args.net.now c.args.at.now.unit c.args.at.now.p c.each.i c.capacity-cap.result c.arc-arc.result c.requires.wanted low c.arc-arc.ensures c.capacity-cap.ensures in
    let back : to_z w128 (of_z w128 c.capacity-cap.result) ≡ c.capacity-cap.result = omega (arith, ints, cap.low, cap.high) in
    let w = c.each.invariant in
    (written_more (caps_of c.args.net.now c.args.at.now.unit c.args.at.now.p) c.each.caps c.put.new.numbers c.each.i w
    (omega (arith, low, length-map c.args.net.now.arcs (capacity_at (of_units c.args.at.now.unit c.args.at.now.p)))) (c.put.ensures ∙ ap (λ z. set c.each.caps c.each.i z) (back ∙ cap.is)))

pub returns : goal.returns
returns c =
    let counted = arc_counted c.args.net.now c.frame-frame.result.now c.arcs-count.result c.frame-frame.ensures.frame c.arcs-count.ensures.value in
    let w = c.each.invariant in
    written_ends (caps_of c.args.net.now c.args.at.now.unit c.args.at.now.p) c.each.caps c.each.i w
    (omega (arith, counted, length-map c.args.net.now.arcs (capacity_at (of_units c.args.at.now.unit c.args.at.now.p))))
