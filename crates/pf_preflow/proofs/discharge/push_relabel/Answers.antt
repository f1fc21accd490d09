use Rattle.std.proofs.Common.{List, ℕ, length, to_z, of_z, arith, ap, sym, subst}
use Rattle.std.specs.Prelude.{ℤ, ◌≤ℤ◌, ◌^◌, pos}
use Rattle.std.proofs.lemmas.Int.{ints}
use Rattle.pf_model.specs.Cut.{at_arc}
use Rattle.pf_preflow.specs.Network.{flow_network}
use Rattle.pf_preflow.specs.Room.{Serves}
use Rattle.pf_preflow.specs.State.{FitsIn, IsReady}
use Rattle.pf_preflow.proofs.Relabel.{excess_fits}
use Rattle.pf_preflow.proofs.Pushing.{can_push, some_capacity, stepped, step_done}
use Rattle.pf_preflow.proofs.discharge.push_relabel.Goals as goal
use mir.Syntax.{w128}

pub push_amount-amount-requires-clause-caps : goal.push_amount-amount-requires-clause-caps
push_amount-amount-requires-clause-caps g c =
    let along = c.admissible_or_relabel-along.ensures.from.residual in
    omega (arith, along.in_range, c.requires.proper.full)

pub push_amount-amount-requires-clause-flow : goal.push_amount-amount-requires-clause-flow
push_amount-amount-requires-clause-flow g c =
    let along = c.admissible_or_relabel-along.ensures.from.residual in
    omega (arith, along.in_range, c.requires.state.preflow.within.full)

pub push_amount-amount-requires-clause-fits : goal.push_amount-amount-requires-clause-fits
push_amount-amount-requires-clause-fits g c =
    let P : List ℤ → Type 0 = λ xs. at_arc xs c.args.v ≤ℤ pos (2 ^ 119) in
    subst P (sym {A = List ℤ} c.admissible_or_relabel-along.ensures.excess) ((excess_fits (flow_network c.args.net) c.args.flow.now c.args.room.now.excess.items c.args.v c.requires.small
    c.requires.state.preflow.within c.requires.state.excess c.requires.node).high)

pub push_amount-amount-requires-clause-residual : goal.push_amount-amount-requires-clause-residual
push_amount-amount-requires-clause-residual g c =
    some_capacity (flow_network c.args.net) c.args.flow.now c.args.v _ _ _ c.admissible_or_relabel-along.ensures.from.residual

pub push-requires-clause-high : goal.push-requires-clause-high
push-requires-clause-high g c =
    let along = c.admissible_or_relabel-along.ensures.from.residual in
    let high = c.requires.state.preflow.within.high c.admissible_or_relabel-along.result.arc along.in_range in
    let most = c.requires.small.limits c.admissible_or_relabel-along.result.arc along.in_range in
    omega (arith, ints, high, most)

pub push-requires-clause-room : goal.push-requires-clause-room
push-requires-clause-room g c =
    let serves = c.admissible_or_relabel-along.ensures.room in
    let P : ℕ → Type 0 = λ n. Serves c.admissible_or_relabel-along.new.room n in
    subst P (sym {A = ℕ} serves.excess) serves

pub push-requires-clause-fits : goal.push-requires-clause-fits
push-requires-clause-fits g c u low =
    let e = c.admissible_or_relabel-along.ensures.excess in
    let n = ap length e in
    let full = c.requires.state.excess.full in
    let P : List ℤ → Type 0 = λ xs. FitsIn (at_arc xs u) in
    subst P (sym {A = List ℤ} e) (excess_fits (flow_network c.args.net) c.args.flow.now c.args.room.now.excess.items u c.requires.small
    c.requires.state.preflow.within c.requires.state.excess (omega (arith, n, full, low)))

pub after_relabel-requires-clause-state : goal.after_relabel-requires-clause-state
after_relabel-requires-clause-state g c =
    let R : List ℤ → Type 0 = λ xs. IsReady (flow_network c.args.net) c.args.flow.now c.args.labels.now c.admissible_or_relabel-along.new.labels xs c.args.v c.admissible_or_relabel-along.result.to c.args.steps.now c.admissible_or_relabel-along.new.steps in
    (stepped (flow_network c.args.net) c.args.flow.now c.args.labels.now c.admissible_or_relabel-along.new.labels c.admissible_or_relabel-along.new.room.excess.items c.args.v c.admissible_or_relabel-along.result.to
    c.admissible_or_relabel-along.result.arc c.args.steps.now c.admissible_or_relabel-along.new.steps c.admissible_or_relabel-along.result.back (to_z w128 (of_z w128 c.push_amount-amount.result)) c.push.new.flow c.push.new.room.excess.items
    c.requires.small (subst R (sym {A = List ℤ} c.admissible_or_relabel-along.ensures.excess) c.admissible_or_relabel-along.ensures.ready) c.requires.node c.admissible_or_relabel-along.ensures.from.node c.admissible_or_relabel-along.ensures.from.residual
    (can_push _ _ _ _ _ _ _ c.push_amount-amount.result (let some = c.push_amount-amount.ensures.some in let small = c.push_amount-amount.ensures.small in omega (arith, ints, some, small))
    (record { some = c.push_amount-amount.ensures.some; fits = c.push_amount-amount.ensures.residual; there = c.push_amount-amount.ensures.there }))
    c.push.ensures.flow c.push.ensures.excess).state

pub after_relabel-requires-clause-room : goal.after_relabel-requires-clause-room
after_relabel-requires-clause-room g c =
    let P : ℕ → Type 0 = λ n. Serves c.push.new.room n in
    subst P c.admissible_or_relabel-along.ensures.room.excess c.push.ensures.room

pub returns-clause-step : goal.returns-clause-step
returns-clause-step g c =
    let R : List ℤ → Type 0 = λ xs. IsReady (flow_network c.args.net) c.args.flow.now c.args.labels.now c.admissible_or_relabel-along.new.labels xs c.args.v c.admissible_or_relabel-along.result.to c.args.steps.now c.admissible_or_relabel-along.new.steps in
    step_done (flow_network c.args.net) c.args.flow.now c.push.new.flow c.args.labels.now c.admissible_or_relabel-along.new.labels c.after_relabel.new.labels c.push.new.room.excess.items c.after_relabel.new.room.excess.items
    c.args.steps.now c.admissible_or_relabel-along.new.steps c.after_relabel.new.steps
    (stepped (flow_network c.args.net) c.args.flow.now c.args.labels.now c.admissible_or_relabel-along.new.labels c.admissible_or_relabel-along.new.room.excess.items c.args.v c.admissible_or_relabel-along.result.to
    c.admissible_or_relabel-along.result.arc c.args.steps.now c.admissible_or_relabel-along.new.steps c.admissible_or_relabel-along.result.back (to_z w128 (of_z w128 c.push_amount-amount.result)) c.push.new.flow c.push.new.room.excess.items
    c.requires.small (subst R (sym {A = List ℤ} c.admissible_or_relabel-along.ensures.excess) c.admissible_or_relabel-along.ensures.ready) c.requires.node c.admissible_or_relabel-along.ensures.from.node c.admissible_or_relabel-along.ensures.from.residual
    (can_push _ _ _ _ _ _ _ c.push_amount-amount.result (let some = c.push_amount-amount.ensures.some in let small = c.push_amount-amount.ensures.small in omega (arith, ints, some, small))
    (record { some = c.push_amount-amount.ensures.some; fits = c.push_amount-amount.ensures.residual; there = c.push_amount-amount.ensures.there }))
    c.push.ensures.flow c.push.ensures.excess).less
    c.admissible_or_relabel-along.ensures.ready.counted c.after_relabel.ensures.state c.after_relabel.ensures.excess
