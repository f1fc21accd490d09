use Rattle.pf_sweep.proofs.Keeping.{flow_sized}
use Rattle.pf_sweep.proofs.sweep.is_least_still.Goals as goal

pub value-least-requires-clause-flow : goal.value-least-requires-clause-flow
value-least-requires-clause-flow c =
    flow_sized c.args.net.now c.args.at.now.unit c.args.at.now.p c.frame.result.now c.args.flow.now c.frame.ensures.frame c.frame.ensures.built c.requires.inside c.requires.bounds c.requires.greatest
