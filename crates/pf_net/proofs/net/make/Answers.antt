use Rattle.pf_net.specs.Limits.{with_arcs}
use Rattle.pf_net.proofs.Built.{built}
use Rattle.pf_net.proofs.net.make.Goals as goal

pub from_setting-requires : goal.from_setting-requires
from_setting-requires c =
    rw c.in_ok-arcs.ensures.items
    (built (with_arcs c.args.setting c.args.arcs.now) c.requires.source c.requires.sink
    c.q-low.ensures.bounds.parameter c.q-high.ensures.bounds.parameter c.requires.none)
