use Rattle.std.proofs.Common.{◌≡◌, arith, ap, ◌∙◌, to_z, of_z, set}
use Rattle.std.proofs.lemmas.Int.{ints}
use Rattle.pf_model.specs.Cut.{at_arc}
use Rattle.pf_net.specs.Limits.{digraph_of}
use Rattle.pf_sweep.specs.Moving.{caps_of}
use Rattle.pf_sweep.proofs.Touching.{cap_found, fitted_is, fitted_bounds}
use Rattle.pf_sweep.proofs.moving.touch.Goals as goal
use mir.Syntax.{w128}

pub put-requires-clause-low : goal.put-requires-clause-low
put-requires-clause-low c =
    let cap = cap_found c.args.net.now c.args.at.now.unit c.args.at.now.p c.args.i c.capacity-cap.result c.arc-arc.result c.requires.wanted c.requires.arc c.arc-arc.ensures c.capacity-cap.ensures in
    omega (arith, ints, cap.low, cap.high)

pub put-requires-clause-high : goal.put-requires-clause-high
put-requires-clause-high c =
    let cap = cap_found c.args.net.now c.args.at.now.unit c.args.at.now.p c.args.i c.capacity-cap.result c.arc-arc.result c.requires.wanted c.requires.arc c.arc-arc.ensures c.capacity-cap.ensures in
    omega (arith, ints, cap.low, cap.high)

pub put-requires-2-clause-low : goal.put-requires-2-clause-low
put-requires-2-clause-low c =
    let cap = cap_found c.args.net.now c.args.at.now.unit c.args.at.now.p c.args.i c.capacity-cap.result c.arc-arc.result c.requires.wanted c.requires.arc c.arc-arc.ensures c.capacity-cap.ensures in
    let back : to_z w128 (of_z w128 c.capacity-cap.result) ≡ c.capacity-cap.result = omega (arith, ints, cap.low, cap.high) in
    let here : to_z w128 (of_z w128 (at_arc c.args.flow.now c.args.i)) ≡ at_arc c.args.flow.now c.args.i = omega (arith, ints, c.requires.low, c.requires.high) in
    let f = rw (back, here) at c.fit-x.ensures in
    let d = fitted_bounds c.leads_low-filled.result c.capacity-cap.result (at_arc c.args.flow.now c.args.i) c.fit-x.result f cap.low cap.high c.requires.low in
    omega (arith, ints, d.0, d.1)

pub put-requires-2-clause-high : goal.put-requires-2-clause-high
put-requires-2-clause-high c =
    let cap = cap_found c.args.net.now c.args.at.now.unit c.args.at.now.p c.args.i c.capacity-cap.result c.arc-arc.result c.requires.wanted c.requires.arc c.arc-arc.ensures c.capacity-cap.ensures in
    let back : to_z w128 (of_z w128 c.capacity-cap.result) ≡ c.capacity-cap.result = omega (arith, ints, cap.low, cap.high) in
    let here : to_z w128 (of_z w128 (at_arc c.args.flow.now c.args.i)) ≡ at_arc c.args.flow.now c.args.i = omega (arith, ints, c.requires.low, c.requires.high) in
    let f = rw (back, here) at c.fit-x.ensures in
    let d = fitted_bounds c.leads_low-filled.result c.capacity-cap.result (at_arc c.args.flow.now c.args.i) c.fit-x.result f cap.low cap.high c.requires.low in
    omega (arith, ints, d.0, d.1)

pub returns-clause-caps : goal.returns-clause-caps
returns-clause-caps c =
    let cap = cap_found c.args.net.now c.args.at.now.unit c.args.at.now.p c.args.i c.capacity-cap.result c.arc-arc.result c.requires.wanted c.requires.arc c.arc-arc.ensures c.capacity-cap.ensures in
    let back : to_z w128 (of_z w128 c.capacity-cap.result) ≡ c.capacity-cap.result = omega (arith, ints, cap.low, cap.high) in
    c.put.ensures ∙ ap (λ z. set c.args.caps.now c.args.i z) (back ∙ cap.is)

pub returns-clause-flow : goal.returns-clause-flow
returns-clause-flow c =
    let cap = cap_found c.args.net.now c.args.at.now.unit c.args.at.now.p c.args.i c.capacity-cap.result c.arc-arc.result c.requires.wanted c.requires.arc c.arc-arc.ensures c.capacity-cap.ensures in
    let back : to_z w128 (of_z w128 c.capacity-cap.result) ≡ c.capacity-cap.result = omega (arith, ints, cap.low, cap.high) in
    let here : to_z w128 (of_z w128 (at_arc c.args.flow.now c.args.i)) ≡ at_arc c.args.flow.now c.args.i = omega (arith, ints, c.requires.low, c.requires.high) in
    let f = rw (back, here) at c.fit-x.ensures in
    let d = fitted_bounds c.leads_low-filled.result c.capacity-cap.result (at_arc c.args.flow.now c.args.i) c.fit-x.result f cap.low cap.high c.requires.low in
    let again : to_z w128 (of_z w128 c.fit-x.result) ≡ c.fit-x.result = omega (arith, ints, d.0, d.1) in
    let is = fitted_is (digraph_of c.args.net.now) c.frame-frame.result.now c.args.labels.now c.args.net.now.source c.source.result c.args.i c.leads_low-filled.result
    c.capacity-cap.result (at_arc (caps_of c.args.net.now c.args.at.now.unit c.args.at.now.p) c.args.i) (at_arc c.args.flow.now c.args.i) c.fit-x.result
    c.frame-frame.ensures.frame c.source.ensures c.leads_low-filled.ensures cap.is f in
    c.put-2.ensures ∙ ap (λ z. set c.args.flow.now c.args.i z) (again ∙ is)
