use Rattle.std.proofs.Common.{◌∙◌}
use Rattle.pf_sweep.proofs.Onward.{wanted_bounded, engine_caps, greatest_back, valid_back, engine_stays}
use Rattle.pf_sweep.proofs.moving.move_first.Goals as goal

pub write_caps-requires-clause-wanted : goal.write_caps-requires-clause-wanted
write_caps-requires-clause-wanted c =
    (wanted_bounded c.args.net.now c.args.at.now.unit c.args.at.now.p c.frame-frame.ensures.built c.requires.inside c.requires.bounds)

pub find-requires-clause-caps : goal.find-requires-clause-caps
find-requires-clause-caps c =
    let e = c.write_caps.ensures in
    engine_caps c.args.net.now c.args.at.now.unit c.args.at.now.p c.frame-frame.result.now c.write_caps.new.caps c.frame-frame.ensures.frame e
    (wanted_bounded c.args.net.now c.args.at.now.unit c.args.at.now.p c.frame-frame.ensures.built c.requires.inside c.requires.bounds)

pub returns-clause-engine : goal.returns-clause-engine
returns-clause-engine c = engine_stays c.args.net.now c.args.engine.now c.find.new.self c.find.ensures.ends c.requires.engine

pub returns-clause-caps : goal.returns-clause-caps
returns-clause-caps c = c.write_caps.ensures

pub returns-clause-greatest : goal.returns-clause-greatest
returns-clause-greatest c =
    let e = c.write_caps.ensures in
    greatest_back c.args.net.now c.args.at.now.unit c.args.at.now.p c.frame-frame.result.now c.args.engine.now c.write_caps.new.caps c.find.new.flow c.frame-frame.ensures.frame
    c.requires.engine.source c.requires.engine.sink e c.find.ensures.greatest

pub returns-clause-valid : goal.returns-clause-valid
returns-clause-valid c =
    let e = c.write_caps.ensures in
    valid_back c.args.net.now c.args.at.now.unit c.args.at.now.p c.frame-frame.result.now c.find.new.self c.write_caps.new.caps c.find.new.flow c.find.new.self.labels c.frame-frame.ensures.frame
    (c.find.ensures.ends.source ∙ c.requires.engine.source) (c.find.ensures.ends.sink ∙ c.requires.engine.sink) e c.find.ensures.labels
