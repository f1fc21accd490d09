use Rattle.std.proofs.Common.{map, arith, ap, ◌∙◌}
use Rattle.pf_model.specs.Mirror.{negative}
use Rattle.pf_curve.proofs.turning.negated_points.Goals as goal
use Rattle.pf_model.proofs.Sums.{take_whole}

pub returns : goal.returns
returns c = c.points.invariant ∙ ap (map negative) (take_whole c.args.points.now c.points.i (omega arith))
