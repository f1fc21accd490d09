use Rattle.std.proofs.Common.{to_z, of_z}
use Rattle.pf_curve.proofs.Carrying.{carriable, unit_back, preflow_here}
use Rattle.pf_curve.proofs.PointLemmas.{flow_found}
use Rattle.pf_curve.proofs.finder.move_flow.Goals as goal
use mir.Syntax.{w128}

pub carry_within-requires-clause-flow : goal.carry_within-requires-clause-flow
carry_within-requires-clause-flow c =
    carriable c.args.net.now c.args.from.now c.frame-frame.result.now (to_z w128 (of_z w128 c.q-from_unit.result)) c.args.flow.now c.frame-frame.ensures.built c.requires.from
    c.frame-frame.ensures.frame (unit_back c.args.from.now c.q-from_unit.result c.q-from_unit.ensures.value c.q-from_unit.ensures.bounds) c.requires.flow

pub find_from-requires-clause-flow : goal.find_from-requires-clause-flow
find_from-requires-clause-flow c =
    preflow_here c.args.engine.now c.frame-frame.result.now c.source-s.result c.sink-t.result c.args.net.now.source c.args.net.now.sink c.caps_at.new.caps c.carry_within.new.flow
    c.source-s.ensures c.sink-t.ensures c.requires.engine.source c.requires.engine.sink c.carry_within.ensures.carried.preflow

pub returns-clause-shape : goal.returns-clause-shape
returns-clause-shape c =
    flow_found c.args.net.now c.args.to.now c.frame-frame.result.now c.args.engine.now.source c.args.engine.now.sink c.caps_at.new.caps c.find_from.new.flow
    c.frame-frame.ensures.frame c.requires.engine.source c.requires.engine.sink c.caps_at.ensures.capacities c.caps_at.ensures.bounded c.find_from.ensures.greatest
