use Rattle.std.proofs.Common.{◌≡◌, refl, of_z, length, arith, ap, sym, ◌∙◌}
use Rattle.std.proofs.lemmas.Bool.{eqb-true}
use Rattle.std.proofs.lemmas.Int.{ints}
use Rattle.pf_model.specs.Curve.{point_at, cut_at, flow_at}
use Rattle.pf_cert.proofs.Seen.{point_here, value_here, level_here}
use Rattle.pf_cert.proofs.check.meets.Goals as goal

pub returns : goal.returns
returns c =
    let net = c.args.net.now in
    let points = c.args.curve.now.points in
    let cuts = c.args.curve.now.cuts in
    let flows = c.args.curve.now.flows in
    let i = c.args.i in
    let j = c.args.j in
    let x = point_at net points j in
    let shown = c.points-points.ensures.points in
    let e = point_here net points c.points-points.result.now j c.index-points-j.result shown (omega (arith, ap length shown)) c.index-points-j.is in
    let sent = value_here net x c.frame.result.now c.source.result c.flow.result.now (flow_at flows j) c.value-sent.result c.frame.ensures.frame c.source.ensures c.flow.ensures
    c.value-sent.ensures in
    let level = level_here net x c.index-points-j.result (cut_at cuts i) (cut_at cuts i) c.args.line.now c.at.result refl c.requires.line e c.at.ensures in (
      λ told.
          let seen : of_z mir.Syntax.w128 c.value-sent.result ≡ of_z mir.Syntax.w128 c.at.result = eqb-true _ _ told in
          let same : c.value-sent.result ≡ c.at.result = omega (arith, ints, seen) in
          sym sent ∙ same ∙ level,
      λ m. let same : c.value-sent.result ≡ c.at.result = sent ∙ m ∙ sym level in grind (arith, ints),
    )
