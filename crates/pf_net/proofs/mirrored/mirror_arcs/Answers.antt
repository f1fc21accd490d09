use Rattle.std.proofs.Common.{map, arith, ap, ◌∙◌}
use Rattle.pf_model.specs.Mirror.{mirror_arc}
use Rattle.pf_net.proofs.mirrored.mirror_arcs.Goals as goal
use Rattle.pf_model.proofs.Sums.{take_whole}

pub returns : goal.returns
returns c = c.arcs.invariant ∙ ap (map mirror_arc) (take_whole c.args.arcs.now c.arcs.i (omega arith))
