use Rattle.std.proofs.Common.{◌∙◌}
use Rattle.pf_sweep.proofs.Onward.{wanted_bounded, before_bounded, before_full, onward, engine_caps, engine_preflow, engine_valid, greatest_back, valid_back, engine_stays}
use Rattle.pf_sweep.proofs.moving.move_on.Goals as goal

pub touch_ends-requires-clause-wanted : goal.touch_ends-requires-clause-wanted
touch_ends-requires-clause-wanted g c =
    (wanted_bounded c.args.net.now c.args.at.now.unit c.args.at.now.p c.frame-frame.ensures.built c.requires.inside c.requires.bounds)

pub touch_ends-requires-clause-labels : goal.touch_ends-requires-clause-labels
touch_ends-requires-clause-labels g c = rw c.labels.ensures.value c.requires.before.valid.full

pub touch_ends-requires-clause-caps : goal.touch_ends-requires-clause-caps
touch_ends-requires-clause-caps g c = before_full c.args.net.now c.args.at.now.unit c.args.at.now.p c.args.caps.now c.args.flow.now c.args.engine.now.labels c.requires.before

pub touch_ends-requires-clause-flow : goal.touch_ends-requires-clause-flow
touch_ends-requires-clause-flow g c =
    before_bounded c.args.net.now c.args.at.now.unit c.args.at.now.p c.args.caps.now c.args.flow.now c.args.engine.now.labels c.frame-frame.ensures.built c.requires.before

pub go_on-requires-clause-caps : goal.go_on-requires-clause-caps
go_on-requires-clause-caps g c =
    let m = rw c.labels.ensures.value at c.touch_ends.ensures in
    let o = onward c.args.net.now c.args.at.now.unit c.args.at.now.p c.args.caps.now c.args.flow.now c.touch_ends.new.caps c.touch_ends.new.flow c.args.engine.now.labels
    c.frame-frame.ensures.built c.requires.inside c.requires.bounds c.requires.before m in
    engine_caps c.args.net.now c.args.at.now.unit c.args.at.now.p c.frame-frame.result.now c.touch_ends.new.caps c.frame-frame.ensures.frame o.caps_are
    (wanted_bounded c.args.net.now c.args.at.now.unit c.args.at.now.p c.frame-frame.ensures.built c.requires.inside c.requires.bounds)

pub go_on-requires-clause-flow : goal.go_on-requires-clause-flow
go_on-requires-clause-flow g c =
    let m = rw c.labels.ensures.value at c.touch_ends.ensures in
    let o = onward c.args.net.now c.args.at.now.unit c.args.at.now.p c.args.caps.now c.args.flow.now c.touch_ends.new.caps c.touch_ends.new.flow c.args.engine.now.labels
    c.frame-frame.ensures.built c.requires.inside c.requires.bounds c.requires.before m in
    engine_preflow c.args.net.now c.args.at.now.unit c.args.at.now.p c.frame-frame.result.now c.args.engine.now c.touch_ends.new.caps c.touch_ends.new.flow c.frame-frame.ensures.frame
    c.requires.engine.source c.requires.engine.sink o.caps_are o.preflow

pub go_on-requires-clause-labels : goal.go_on-requires-clause-labels
go_on-requires-clause-labels g c =
    let m = rw c.labels.ensures.value at c.touch_ends.ensures in
    let o = onward c.args.net.now c.args.at.now.unit c.args.at.now.p c.args.caps.now c.args.flow.now c.touch_ends.new.caps c.touch_ends.new.flow c.args.engine.now.labels
    c.frame-frame.ensures.built c.requires.inside c.requires.bounds c.requires.before m in
    engine_valid c.args.net.now c.args.at.now.unit c.args.at.now.p c.frame-frame.result.now c.args.engine.now c.touch_ends.new.caps c.touch_ends.new.flow c.args.engine.now.labels c.frame-frame.ensures.frame
    c.requires.engine.source c.requires.engine.sink o.caps_are o.valid

pub returns-clause-engine : goal.returns-clause-engine
returns-clause-engine g c = engine_stays c.args.net.now c.args.engine.now c.go_on.new.engine c.go_on.ensures.ends c.requires.engine

pub returns-clause-caps : goal.returns-clause-caps
returns-clause-caps g c =
    let m = rw c.labels.ensures.value at c.touch_ends.ensures in
    (onward c.args.net.now c.args.at.now.unit c.args.at.now.p c.args.caps.now c.args.flow.now c.touch_ends.new.caps c.touch_ends.new.flow c.args.engine.now.labels
    c.frame-frame.ensures.built c.requires.inside c.requires.bounds c.requires.before m).caps_are

pub returns-clause-greatest : goal.returns-clause-greatest
returns-clause-greatest g c =
    let m = rw c.labels.ensures.value at c.touch_ends.ensures in
    let o = onward c.args.net.now c.args.at.now.unit c.args.at.now.p c.args.caps.now c.args.flow.now c.touch_ends.new.caps c.touch_ends.new.flow c.args.engine.now.labels
    c.frame-frame.ensures.built c.requires.inside c.requires.bounds c.requires.before m in
    greatest_back c.args.net.now c.args.at.now.unit c.args.at.now.p c.frame-frame.result.now c.go_on.new.engine c.touch_ends.new.caps c.go_on.new.flow c.frame-frame.ensures.frame
    (c.go_on.ensures.ends.source ∙ c.requires.engine.source) (c.go_on.ensures.ends.sink ∙ c.requires.engine.sink) o.caps_are c.go_on.ensures.greatest

pub returns-clause-valid : goal.returns-clause-valid
returns-clause-valid g c =
    let m = rw c.labels.ensures.value at c.touch_ends.ensures in
    let o = onward c.args.net.now c.args.at.now.unit c.args.at.now.p c.args.caps.now c.args.flow.now c.touch_ends.new.caps c.touch_ends.new.flow c.args.engine.now.labels
    c.frame-frame.ensures.built c.requires.inside c.requires.bounds c.requires.before m in
    valid_back c.args.net.now c.args.at.now.unit c.args.at.now.p c.frame-frame.result.now c.go_on.new.engine c.touch_ends.new.caps c.go_on.new.flow c.go_on.new.engine.labels c.frame-frame.ensures.frame
    (c.go_on.ensures.ends.source ∙ c.requires.engine.source) (c.go_on.ensures.ends.sink ∙ c.requires.engine.sink) o.caps_are c.go_on.ensures.labels
