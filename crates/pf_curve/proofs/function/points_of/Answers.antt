use Rattle.pf_curve.proofs.Pushing.{pushed}
use Rattle.pf_curve.proofs.function.points_of.Goals as goal

pub parts-preserved : goal.parts-preserved
parts-preserved c = pushed (λ p. p.right) c.args.parts.now c.parts.part-index c.part-item.result c.args.lo.now c.parts.points c.add_point-in-parts.new.points
    c.parts-test.true c.part-item.is c.parts.invariant c.in_ok-add_point-2.ensures.added c.in_ok-add_point-2.ensures.shape
