use Rattle.std.proofs.Common.{map, arith, ap, sym, ◌∙◌}
use Rattle.pf_model.specs.Network.{capacity_at}
use Rattle.pf_net.proofs.sums.capacities.Goals as goal
use Rattle.pf_model.proofs.Sums.{take_whole}

pub returns : goal.returns
returns c =
    let whole = take_whole c.arcs.caps c.arcs.i (omega arith) in
    let all = take_whole c.args.arcs.now c.arcs.i (omega arith) in
    sym whole ∙ c.arcs.invariant ∙ ap (map (capacity_at c.args.at.now)) all
