use Rattle.std.proofs.Common.{arith, rules}
use Rattle.pf_preflow.specs.Network.{flow_network}
use Rattle.pf_preflow.proofs.StartLemmas.{is_restarted}
use Rattle.pf_preflow.proofs.starting.restart.Goals as goal

pub returns-clause-started : goal.returns-clause-started
returns-clause-started c =
    is_restarted (flow_network c.args.net) c.args.flow.now c.refill_source.new.flow c.label_source.new.labels c.requires.proper c.requires.flow
    (let e = c.refill_source.auto.flow in omega (arith, e, c.requires.flow.within.full)) (c.refill_source.ensures c.args.net.sink) (search rules)
