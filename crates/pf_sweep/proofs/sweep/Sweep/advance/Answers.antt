use Rattle.std.proofs.Common.{arith, length, drop, refl}
use Rattle.std.proofs.lemmas.Int.{to_z-of_z}
use Rattle.pf_sweep.proofs.Sweeping.{due_of, before_of, goes_on, advanced_of}
use Rattle.pf_sweep.proofs.sweep.Sweep.advance.Goals as goal
use mir.Syntax.{w128}
use Rattle.pf_model.proofs.Facts.{lent_back}

pub move_on-requires-clause-bounds : goal.move_on-requires-clause-bounds
move_on-requires-clause-bounds g c =
    let due = due_of _ _ _ _ _ _ c.args.p c.self.invariant c.self.view_is c.requires.inside c.requires.later in
    rw (to_z-of_z w128 c.args.p c.ranges.p) due.bounds

pub move_on-requires-clause-before : goal.move_on-requires-clause-before
move_on-requires-clause-before g c =
    let due = due_of _ _ _ _ _ _ c.args.p c.self.invariant c.self.view_is c.requires.inside c.requires.later in
    rw (c.deref_mut.ensures.value, c.deref_mut-2.ensures.value, to_z-of_z w128 c.args.p c.ranges.p) (before_of _ _ _ _ _ c.args.p c.self.invariant due.later)

pub invariant_of-self : goal.invariant_of-self
invariant_of-self g c =
    let due = due_of _ _ _ _ _ _ c.args.p c.self.invariant c.self.view_is c.requires.inside c.requires.later in
    let same = to_z-of_z w128 c.args.p c.ranges.p in
    let caps = lent_back c.self.inside.caps.len c.move_on.new.caps (drop (length c.move_on.new.caps) c.self.inside.caps.items)
    (omega (arith, c.self.inside.caps.ok.0, c.move_on.auto.caps, c.deref_mut.ensures.len)) in
    let flow = lent_back c.self.inside.flow.len c.move_on.new.flow (drop (length c.move_on.new.flow) c.self.inside.flow.items)
    (omega (arith, c.self.inside.flow.ok.0, c.move_on.auto.flow, c.deref_mut-2.ensures.len)) in
    rw (same, caps, flow)
    (goes_on _ c.args.p _ c.move_on.new.engine _ _ c.move_on.new.caps c.move_on.new.flow _ c.self.invariant due.later due.inside c.move_on.ensures.engine (rw same at c.move_on.ensures.caps)
    (rw same at c.move_on.ensures.greatest) (rw same at c.move_on.ensures.valid) c.move_on.ensures.low)

pub returns : goal.returns
returns g c =
    let due = due_of _ _ _ _ _ _ c.args.p c.self.invariant c.self.view_is c.requires.inside c.requires.later in
    let same = to_z-of_z w128 c.args.p c.ranges.p in
    let flow = lent_back c.self.inside.flow.len c.move_on.new.flow (drop (length c.move_on.new.flow) c.self.inside.flow.items)
    (omega (arith, c.self.inside.flow.ok.0, c.move_on.auto.flow, c.deref_mut-2.ensures.len)) in
    rw (same, flow)
    (advanced_of _ _ c.args.p c.self.inside.engine c.move_on.new.engine c.move_on.new.flow c.args.steps.now c.move_on.new.steps c.self.view_is refl due.inside (rw same at c.move_on.ensures.greatest)
    (rw same at c.move_on.ensures.valid) c.move_on.ensures.low c.move_on.ensures.none_fell c.move_on.ensures.at_least c.move_on.ensures.at_most)
