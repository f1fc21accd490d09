use Rattle.std.proofs.Common.{map, arith, ap, ◌∙◌}
use Rattle.pf_model.specs.Network.{ends_of}
use Rattle.pf_net.proofs.net.ends_of_arcs.Goals as goal
use Rattle.pf_model.proofs.Sums.{take_whole}

pub returns : goal.returns
returns c = c.arcs.invariant ∙ ap (map ends_of) (take_whole c.args.arcs.now c.arcs.arc-index (omega arith))
