use Rattle.pf_curve.proofs.PointLemmas.{flow_found}
use Rattle.pf_curve.proofs.finder.write_flow.Goals as goal

pub returns-clause-shape : goal.returns-clause-shape
returns-clause-shape c =
    flow_found c.args.net.now c.args.at.now c.frame-frame.result.now c.args.engine.now.source c.args.engine.now.sink c.caps_at.new.caps c.find.new.flow
    c.frame-frame.ensures.frame c.requires.engine.source c.requires.engine.sink c.caps_at.ensures.capacities c.caps_at.ensures.bounded c.find.ensures.greatest
