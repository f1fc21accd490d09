use Rattle.std.proofs.Common.{List, length, Bool, arith, ap, sym, ◌∙◌, subst}
use Rattle.pf_model.specs.Residual.{IsReach}
use Rattle.pf_model.specs.Network.{network_at}
use Rattle.pf_model.specs.Curve.{point_at, cut_at, flow_at}
use Rattle.pf_cert.proofs.Places.{same_reach}
use Rattle.pf_cert.proofs.Seen.{point_here, inside_here, reach_here}
use Rattle.pf_cert.proofs.check.is_reached.Goals as goal

pub caps_at-requires-clause-inside : goal.caps_at-requires-clause-inside
caps_at-requires-clause-inside c =
    let shown = c.points-points.ensures.points in
    inside_here c.args.net.now c.args.curve.now.points c.points-points.result.now c.args.curve.now.cuts c.args.j c.index-points-j.result c.frame-frame.ensures.built.monotone
    c.requires.division shown (omega (arith, ap length shown)) c.index-points-j.is

pub returns-clause-exact : goal.returns-clause-exact
returns-clause-exact c =
    let net = c.args.net.now in
    let points = c.args.curve.now.points in
    let cuts = c.args.curve.now.cuts in
    let flows = c.args.curve.now.flows in
    let i = c.args.i in
    let j = c.args.j in
    let x = point_at net points j in
    let flow = flow_at flows j in
    let shown = c.points-points.ensures.points in
    let e = point_here net points c.points-points.result.now j c.index-points-j.result shown (omega (arith, ap length shown)) c.index-points-j.is in
    let found = reach_here net x c.index-points-j.result c.frame-frame.result.now c.source.result c.caps_at.new.caps c.flow-flow.result.now flow c.reach.new.side
    c.frame-frame.ensures.frame c.source.ensures e c.caps_at.ensures.capacities c.flow-flow.ensures c.reach.ensures.reach in
    let P : List Bool → Type 0 = λ side. IsReach (network_at net x) flow side in (
      λ told. subst P (c.is_same_side.ensures.0 told ∙ c.cut.ensures) found,
      λ r. c.is_same_side.ensures.1 (same_reach (network_at net x) flow c.reach.new.side (cut_at cuts i) found r ∙ sym c.cut.ensures),
    )
