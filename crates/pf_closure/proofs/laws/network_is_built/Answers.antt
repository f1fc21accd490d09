use Rattle.pf_closure.proofs.NetBuilt.{net_built}
use Rattle.pf_closure.proofs.laws.network_is_built.Goals as goal

pub returns : goal.returns
returns c = net_built
