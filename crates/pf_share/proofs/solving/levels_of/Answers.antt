use Rattle.std.proofs.Common.{length, arith, ap}
use Rattle.pf_share.proofs.Solved.{level_more}
use Rattle.pf_share.proofs.solving.levels_of.Goals as goal

pub levels-preserved : goal.levels-preserved
levels-preserved c =
    let many = ap length c.points-points.ensures.points in
    let count = c.points-points.ensures.count in
    level_more c.args.sharing.now c.args.curve.now.points c.points-points.result.now c.levels.levels c.push.new.self c.args.first c.levels.j
    c.index-points-first.result c.levels.invariant c.points-points.ensures.points (omega (arith, c.requires, c.levels-test.true, many, count))
    c.index-points-first.is c.in_ok-push.ensures.added
