use Rattle.std.proofs.Common.{◌≡◌, take}
use Rattle.std.specs.Prelude.{map}
use Rattle.pf_model.specs.Network.{capacity_at}
use Rattle.pf_net.proofs.sums.capacities.Given as goal

-- the first places hold the capacities of the arcs so far
abbrev pub invariant-arcs : goal.invariant-arcs
invariant-arcs l = take l.i l.caps ≡ map (capacity_at l.at) (take l.i l.arcs)
