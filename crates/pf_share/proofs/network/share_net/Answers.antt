use Rattle.std.proofs.Common.{sym, subst}
use Rattle.pf_net.specs.Limits.{IsBuilt}
use Rattle.pf_share.proofs.NetBuilt.{net_built}
use Rattle.pf_share.proofs.Solved.{same_net}
use Rattle.pf_share.proofs.network.share_net.Goals as goal

pub from_arcs-requires : goal.from_arcs-requires
from_arcs-requires c =
    let p = c.args.sharing.now in
    let same = same_net p c.nodes-nodes.result c.sink-sink.result c.from_integer-low.result c.from_integer-high.result c.push_flows.new.arcs.items c.push_sources.new.arcs.items
    c.nodes-nodes.ensures.value c.sink-sink.ensures.value c.from_integer-low.ensures c.from_integer-high.ensures c.in_ok-push_flows.ensures c.in_ok-push_sources.ensures in
    subst IsBuilt (sym same) (net_built p c.nodes-nodes.ensures.limits)
