use Rattle.std.proofs.Common.{◌≡◌, take}
use Rattle.pf_share.specs.Reduction.{flow_arcs}
use Rattle.pf_share.proofs.network.push_flows.Given as goal

abbrev pub invariant-arcs : goal.invariant-arcs
invariant-arcs l = l.arcs.items ≡ flow_arcs (take l.i l.sharing.ends) (take l.i l.sharing.capacities)
