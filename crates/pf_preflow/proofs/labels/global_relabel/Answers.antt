use Rattle.std.proofs.Common.{List, ℕ, length, drop, rules, arith, subst}
use Rattle.pf_model.specs.Residual.{HasValidLabels}
use Rattle.pf_preflow.specs.Network.{flow_network}
use Rattle.pf_preflow.specs.Raising.{AreRaised}
use Rattle.pf_preflow.proofs.RaisedLabels.{state_raised}
use Rattle.pf_preflow.proofs.labels.global_relabel.Goals as goal
use Rattle.pf_model.proofs.Facts.{lent_back}

pub returns-then-find_distances-clause-state : goal.returns-then-find_distances-clause-state
returns-then-find_distances-clause-state g c =
    let valid : HasValidLabels (flow_network c.args.net) c.args.flow.now c.find_distances.new.distances = search rules in
    let full = c.requires.state.valid.full in
    let e = lent_back c.args.room.now.distances.len c.find_distances.new.distances (drop (length c.find_distances.new.distances) c.args.room.now.distances.items)
    (omega (arith, c.args.room.now.distances.ok.0, c.requires.room.distances, valid.full)) in
    let P : List ℕ → Type 0 = λ d. AreRaised c.args.labels.now d c.raise_to_distances.new.labels (length c.args.labels.now) c.args.steps.now c.raise_to_distances.new.steps in
    state_raised (flow_network c.args.net) c.args.flow.now c.args.labels.now c.find_distances.new.distances c.raise_to_distances.new.labels c.args.room.now.excess.items
    (length c.args.labels.now) c.args.steps.now c.raise_to_distances.new.steps c.requires.proper c.requires.small c.requires.state valid c.find_distances.ensures.low
    (subst P e c.raise_to_distances.ensures.raised) (omega (arith, full))
