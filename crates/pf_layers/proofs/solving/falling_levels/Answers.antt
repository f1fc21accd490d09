use Rattle.std.proofs.Common.{◌≡◌, ◌-◌, length, arith, ap, sym, subst, ◌∙◌, add-one}
use Rattle.pf_layers.proofs.LevelLemmas.{AreFallingTo, falling_begins, falling_more, falling_ends}
use Rattle.pf_layers.proofs.solving.falling_levels.Goals as goal

pub points-init : goal.points-init
points-init c = falling_begins c.args.graph.now c.args.curve.now.points (length c.args.curve.now.cuts) c.new-levels.result c.new-levels.ensures

pub points-preserved : goal.points-preserved
points-preserved c =
    let g = c.args.graph.now in
    let cuts = length c.args.curve.now.cuts in
    let count = c.points-points.ensures.count in
    let same = c.points-points.ensures.points in
    let shown = ap length same in
    let less = c.points-test.true in
    let from = c.points.auto.j in
    let j = c.points.j in
    let i = (length c.points-points.result.now - 1) - j in
    subst (AreFallingTo g c.args.curve.now.points cuts c.add_level.new.levels) (sym (add-one j))
    (falling_more g c.args.curve.now.points c.points-points.result.now cuts c.points.levels c.add_level.new.levels j i c.index-points-count.result c.points.invariant same
    (omega (arith, count, shown, less, from)) (omega (arith, count, shown)) c.index-points-count.is c.in_ok-add_level.ensures.added c.in_ok-add_level.ensures.shape)

pub returns : goal.returns
returns c =
    let count = c.points-points.ensures.count in
    let shown = ap length c.points-points.ensures.points in
    let end = c.points.auto.j-end in
    let stop = c.points-test.false in
    let some = c.requires in
    let e : c.points.j ≡ length c.args.curve.now.cuts = omega (arith, count, shown, end, stop, some) in
    record {
      count = c.points.invariant.count ∙ e;
      levels = falling_ends c.args.graph.now c.args.curve.now.points c.args.curve.now.cuts c.points.levels c.points.j c.points.invariant e;
      shape = c.points.invariant.shape;
    }
