use Rattle.std.proofs.Common.{◌+◌, ◌<◌, length, arith, ap}
use Rattle.pf_select.proofs.Solved.{price_more}
use Rattle.pf_select.proofs.solving.inner_points.Goals as goal

pub points-preserved : goal.points-preserved
points-preserved c =
    let count = c.points-points.ensures.count in
    let same = c.points-points.ensures.points in
    let full = ap length same in
    let low : c.points.j + 1 < length c.points-points.result.now = omega (arith, c.points-test.true, c.requires, count, full) in
    price_more c.args.catalogue.now c.args.curve.now.points c.points-points.result.now c.points.prices _ c.points.j c.index-points-j.result c.points.invariant same low
    c.index-points-j.is c.in_ok-push.ensures.added
