use Rattle.std.proofs.Common.{◌+◌, refl, subst, arith, ◌∙◌}
use Rattle.pf_model.specs.Network.{Network}
use Rattle.pf_curve.specs.Flows.{AreFilled}
use Rattle.pf_curve.proofs.Filling.{filling_begins, filling_ends}
use Rattle.pf_curve.proofs.function.flows_at.Goals as goal

pub points-init : goal.points-init
points-init c = record { same = refl; most = omega arith; filled = filling_begins c.args.finder.now c.args.points.now c.new-rows.result c.new-rows.ensures }

pub points-preserved : goal.points-preserved
points-preserved c =
    let P : Network → Type 0 = λ net. AreFilled net c.args.points.now (c.points.i + 1) c.add_row.new.rows in
    record {
      same = c.add_row.ensures.same ∙ c.points.invariant.same;
      most = omega (arith, c.points-test.true);
      filled = subst P c.points.invariant.same c.in_ok-add_row.ensures.rows;
    }

pub returns : goal.returns
returns c = filling_ends c.args.finder.now c.args.points.now c.points.i c.points.rows c.points.invariant.filled c.points.invariant.most c.points-test.false
