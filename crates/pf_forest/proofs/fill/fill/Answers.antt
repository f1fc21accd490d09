use Rattle.std.proofs.Common.{◌≡◌, ◌<◌, ◌≤◌, get_or, length, replicate, to_z, of_z, arith, ap, ◌∙◌}
use Rattle.std.specs.Prelude.{◌≤ℤ◌, ◌^◌, pos}
use Rattle.std.proofs.lemmas.Int.{ints}
use Rattle.pf_model.specs.Cut.{at_arc}
use Rattle.pf_frame.proofs.Steps.{out_item}
use Rattle.pf_forest.proofs.Filling.{forest_starts, filling_starts, filling_goes_on, row_goes_on, row_ends, filling_ends}
use Rattle.pf_forest.proofs.fill.fill.Goals as goal
use mir.Syntax.{w128}

pub rows-init : goal.rows-init
rows-init c =
    let given_low = c.requires.low in
    let given_high = c.requires.high in
    let low : pos 0 ≤ℤ to_z w128 (of_z w128 c.args.limit) = omega (arith, ints, given_low, given_high) in
    let high : to_z w128 (of_z w128 c.args.limit) ≤ℤ pos (2 ^ 80) = omega (arith, ints, given_low, given_high) in
    let vector = c.start.ensures.vector ∙ ap (λ n. replicate n (pos 0)) c.requires.vector in
    let heads = c.start.ensures.heads ∙ ap (λ n. replicate n (pos 0)) c.requires.heads in
    let rooms = c.start.ensures.rooms ∙ ap (λ n. replicate n (to_z w128 (of_z w128 c.args.limit))) c.requires.rooms in
    record {
      forest = forest_starts c.args.frame.now (to_z w128 (of_z w128 c.args.limit)) c.start.new.charges.vector.items c.start.new.charges.heads.items c.start.new.charges.rooms.items c.start.new.groups low high
          vector heads rooms (c.start.ensures.groups ∙ c.requires.groups) (λ v h. c.start.ensures.own v (omega (arith, h, c.requires.groups)));
      filling = filling_starts c.args.frame.now c.args.goals.now c.start.new.charges.vector.items c.start.new.groups c.requires.goals vector;
      tables = c.requires.tables;
    }

pub bounds-goals-e : goal.bounds-goals-e
bounds-goals-e c =
    let n = out_item c.args.frame.now _ c.row.e-index _ c.row.invariant.items (omega arith) in
    omega (arith, n.in_range, c.requires.goals.goals_full)

pub raise_to-requires-clause-edge : goal.raise_to-requires-clause-edge
raise_to-requires-clause-edge c = (out_item c.args.frame.now _ c.row.e-index _ c.row.invariant.items (omega arith)).in_range

pub raise_to-requires-clause-goal : goal.raise_to-requires-clause-goal
raise_to-requires-clause-goal c =
    let n = out_item c.args.frame.now _ c.row.e-index _ c.row.invariant.items (omega arith) in
    let within = c.row.invariant.filling.within (get_or c.outs-e-items.result.now c.row.e-index 0) n.in_range in
    let low = c.requires.goals.goals_low (get_or c.outs-e-items.result.now c.row.e-index 0) n.in_range in
    let high = c.requires.goals.goals_high (get_or c.outs-e-items.result.now c.row.e-index 0) n.in_range in
    omega (arith, ints, within, low, high)

pub row-preserved : goal.row-preserved
row-preserved c =
    let here : c.row.e-index < length c.outs-e-items.result.now = omega arith in
    let n = out_item c.args.frame.now _ c.row.e-index _ c.row.invariant.items here in
    let low = c.requires.goals.goals_low (get_or c.outs-e-items.result.now c.row.e-index 0) n.in_range in
    let high = c.requires.goals.goals_high (get_or c.outs-e-items.result.now c.row.e-index 0) n.in_range in
    let same : to_z w128 (of_z w128 (get_or c.args.goals.now (get_or c.outs-e-items.result.now c.row.e-index 0) (pos 0)))
    ≡ at_arc c.args.goals.now (get_or c.outs-e-items.result.now c.row.e-index 0) = omega (arith, ints, low, high) in
    record {
      forest = c.raise_to.ensures.forest;
      filling = filling_goes_on c.args.frame.now c.args.goals.now c.row.charges.vector.items c.raise_to.new.charges.vector.items c.row.groups c.raise_to.new.groups
          (get_or c.outs-e-items.result.now c.row.e-index 0) _ c.rows.u c.nodes-nodes.ensures.graph c.raise_to.ensures.raised same c.row.invariant.filling;
      tables = c.raise_to.ensures.tables;
      items = c.row.invariant.items;
      row = row_goes_on c.args.frame.now c.args.goals.now c.row.charges.vector.items c.raise_to.new.charges.vector.items c.row.groups c.raise_to.new.groups c.outs-e-items.result.now c.row.e-index _
          c.nodes-nodes.ensures.graph (λ k h. (out_item c.args.frame.now _ k _ c.row.invariant.items h).in_range) here c.raise_to.ensures.raised same c.row.invariant.row;
    }

pub rows-preserved : goal.rows-preserved
rows-preserved c =
    let past : length c.outs-e-items.result.now ≤ c.row.e-index = omega arith in
    record {
      forest = c.row.invariant.forest;
      filling = row_ends c.args.frame.now c.args.goals.now c.row.charges.vector.items c.row.groups c.outs-e-items.result.now c.row.e-index c.rows.u c.row.invariant.filling
          c.row.invariant.items past c.row.invariant.row;
      tables = c.row.invariant.tables;
    }

pub returns-clause-within : goal.returns-clause-within
returns-clause-within c = record { within = c.rows.invariant.filling.within }

pub returns-clause-crossing : goal.returns-clause-crossing
returns-clause-crossing c =
    let past : c.args.frame.now.nodes ≤ c.rows.u = omega arith in
    filling_ends c.args.frame.now c.args.goals.now c.rows.charges.vector.items c.rows.groups c.rows.u c.nodes-nodes.ensures.graph past c.rows.invariant.filling
