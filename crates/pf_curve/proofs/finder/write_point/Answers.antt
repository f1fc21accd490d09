use Rattle.pf_curve.proofs.PointLemmas.{point_found, shape_found, within_found}
use Rattle.pf_curve.proofs.finder.write_point.Goals as goal

pub reach-requires-clause-flow : goal.reach-requires-clause-flow
reach-requires-clause-flow c =
    within_found c.args.net.now c.frame-frame.result.now _ c.write_flow.new.caps c.write_flow.new.flow c.frame-frame.ensures.frame c.write_flow.ensures.best

pub returns-clause-point : goal.returns-clause-point
returns-clause-point c =
    point_found c.args.net.now c.args.at.now c.frame-frame.result.now c.source.result c.write_flow.new.caps c.write_flow.new.flow c.reach.new.side
    c.frame-frame.ensures.built c.requires.inside c.frame-frame.ensures.frame c.source.ensures c.write_flow.ensures.capacities
    c.write_flow.ensures.best c.reach.ensures.reach

pub returns-clause-shape : goal.returns-clause-shape
returns-clause-shape c =
    let p = point_found c.args.net.now c.args.at.now c.frame-frame.result.now c.source.result c.write_flow.new.caps c.write_flow.new.flow c.reach.new.side
    c.frame-frame.ensures.built c.requires.inside c.frame-frame.ensures.frame c.source.ensures c.write_flow.ensures.capacities
    c.write_flow.ensures.best c.reach.ensures.reach in
    shape_found c.args.net.now c.args.at.now c.write_flow.new.caps c.write_flow.new.flow c.reach.new.side p c.q-q.ensures.bounds c.q-q.ensures.lowest
    c.write_flow.ensures.capacities c.write_flow.ensures.bounded
