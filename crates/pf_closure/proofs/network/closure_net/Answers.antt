use Rattle.std.proofs.Common.{◌+◌, ap, sym, subst}
use Rattle.pf_net.specs.Limits.{IsBuilt}
use Rattle.pf_closure.proofs.NetBuilt.{net_built, same_net}
use Rattle.pf_closure.proofs.network.closure_net.Goals as goal

pub from_arcs-requires : goal.from_arcs-requires
from_arcs-requires c =
    let same = same_net c.args.items.now _ c.from_integer-low.result c.from_integer-high.result c.push_items.new.arcs.items c.push_needs.new.arcs.items
    (ap (λ n. n + 1) c.items-sink.ensures.value) c.from_integer-low.ensures c.from_integer-high.ensures c.in_ok-push_items.ensures c.in_ok-push_needs.ensures in
    subst IsBuilt (sym same) (net_built c.args.items.now c.items-sink.ensures.items)
