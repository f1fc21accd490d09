use Rattle.std.proofs.Common.{List, ℕ, length, drop, rules, arith, subst}
use Rattle.pf_preflow.specs.Network.{flow_network}
use Rattle.pf_preflow.specs.Raising.{AreOverGap, AreRaised}
use Rattle.pf_preflow.proofs.RaisedLabels.{state_raised, over_valid}
use Rattle.pf_preflow.proofs.labels.gap_relabel.Goals as goal
use Rattle.pf_model.proofs.Facts.{lent_back}

pub labels_over_gap-requires-clause-some : goal.labels_over_gap-requires-clause-some
labels_over_gap-requires-clause-some g c =
    let low = c.requires.proper.source in
    let low' = c.requires.proper.sink in
    let apart = c.requires.proper.apart in
    let full = c.requires.state.valid.full in
    omega (arith, low, low', apart, full)

pub returns-then-labels_over_gap-clause-state : goal.returns-then-labels_over_gap-clause-state
returns-then-labels_over_gap-clause-state g c =
    let o : AreOverGap (length c.args.labels.now) c.args.gap c.args.labels.now c.labels_over_gap.new.other (length c.args.labels.now) = search rules in
    let valid = over_valid (flow_network c.args.net) c.args.flow.now c.args.labels.now c.labels_over_gap.new.other c.args.gap _
    c.requires.proper c.requires.state.valid c.requires.state.valid.full o in
    let full = c.requires.state.valid.full in
    let other = o.full in
    let e = lent_back c.args.room.now.distances.len c.labels_over_gap.new.other (drop (length c.labels_over_gap.new.other) c.args.room.now.distances.items)
    (omega (arith, c.args.room.now.distances.ok.0, c.requires.room.distances, full, other)) in
    let P : List ℕ → Type 0 = λ d. AreRaised c.args.labels.now d c.raise_to_distances.new.labels (length c.args.labels.now) c.args.steps.now c.raise_to_distances.new.steps in
    state_raised (flow_network c.args.net) c.args.flow.now c.args.labels.now c.labels_over_gap.new.other c.raise_to_distances.new.labels c.args.room.now.excess.items
    (length c.args.labels.now) c.args.steps.now c.raise_to_distances.new.steps c.requires.proper c.requires.small c.requires.state valid (rw c.requires.state.valid.full at o.low)
    (subst P e c.raise_to_distances.ensures.raised) (omega (arith, full))
