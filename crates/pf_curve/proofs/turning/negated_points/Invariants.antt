use Rattle.std.proofs.Common.{◌≡◌, take}
use Rattle.std.specs.Prelude.{map}
use Rattle.pf_model.specs.Mirror.{negative}
use Rattle.pf_curve.proofs.turning.negated_points.Given as goal

abbrev pub invariant-points : goal.invariant-points
invariant-points l = l.made ≡ map negative (take l.i l.points)
