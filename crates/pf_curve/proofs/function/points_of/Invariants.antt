use Rattle.pf_curve.proofs.Pushing.{ArePoints}
use Rattle.pf_curve.proofs.function.points_of.Given as goal

abbrev pub invariant-parts : goal.invariant-parts
invariant-parts l = ArePoints (λ p. p.right) l.parts l.lo l.part-index l.points
