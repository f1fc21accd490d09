use Rattle.std.proofs.Common.{◌+◌, ◌<◌, length, arith, ap, sym, subst, add-one}
use Rattle.pf_layers.specs.Reading.{AreRising}
use Rattle.pf_layers.proofs.LevelLemmas.{rising_more, more_shape}
use Rattle.pf_layers.proofs.solving.rising_levels.Goals as goal

pub points-preserved : goal.points-preserved
points-preserved c =
    let p = c.args.items.now in
    let count = c.points-points.ensures.count in
    let same = c.points-points.ensures.points in
    let shown = ap length same in
    let less = c.points-test.true in
    let many = c.requires in
    let low : c.points.j + 1 < length c.points-points.result.now = omega (arith, count, shown, less, many) in
    record {
      levels = subst (AreRising p c.args.curve.now.points c.add_level.new.levels) (sym (add-one c.points.j))
          (rising_more p c.args.curve.now.points c.points-points.result.now c.points.levels c.add_level.new.levels c.points.j c.index-points-j.result c.points.invariant.levels same low
          c.index-points-j.is c.in_ok-add_level.ensures.added);
      shape = more_shape c.points.levels c.add_level.new.levels c.index-points-j.result c.points.invariant.shape c.in_ok-add_level.ensures.added c.in_ok-add_level.ensures.shape;
    }
