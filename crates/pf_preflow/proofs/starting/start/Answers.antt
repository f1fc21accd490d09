use Rattle.std.proofs.Common.{arith, rules}
use Rattle.pf_preflow.specs.Network.{flow_network}
use Rattle.pf_preflow.proofs.StartLemmas.{is_started}
use Rattle.pf_preflow.proofs.starting.start.Goals as goal

pub returns-clause-started : goal.returns-clause-started
returns-clause-started c =
    is_started (flow_network c.args.net) c.fill_source.new.flow c.label_source.new.labels c.requires.proper
    (let e = c.fill_source.auto.flow in omega (arith, e, c.requires.flow)) (c.fill_source.ensures c.args.net.sink) (search rules)
