use Rattle.std.proofs.Common.{◌≡◌, to_z, of_z, arith, subst}
use Rattle.std.specs.Prelude.{ℤ, ◌+ℤ◌, ◌<ℤ◌, pos}
use Rattle.std.proofs.lemmas.Int.{ints}
use Rattle.pf_model.specs.Cut.{at_arc}
use Rattle.pf_forest.specs.Filling.{IsRaised}
use Rattle.pf_forest.proofs.Filling.{edge_at_most, raise_joins}
use Rattle.pf_forest.proofs.fill.raise.Goals as goal
use mir.Syntax.{w128}

pub overflow_add-goal : goal.overflow_add-goal
overflow_add-goal c =
    let b = edge_at_most c.args.frame.now c.args.limit _ _ _ c.args.groups.now c.args.e _ c.nodes.ensures.graph c.requires.forest c.requires.apart c.requires.edge c.index-now.ensures in
    omega (arith, ints, b.low, b.most, b.small, b.is)

pub overflow_add-goal-2 : goal.overflow_add-goal-2
overflow_add-goal-2 c =
    let b = edge_at_most c.args.frame.now c.args.limit _ _ _ c.args.groups.now c.args.e _ c.nodes.ensures.graph c.requires.forest c.requires.apart c.requires.edge c.index-now.ensures in
    omega (arith, ints, b.low, b.most, b.small, b.is)

pub raise_to-requires-clause-goal : goal.raise_to-requires-clause-goal
raise_to-requires-clause-goal c =
    let b = edge_at_most c.args.frame.now c.args.limit _ _ _ c.args.groups.now c.args.e _ c.nodes.ensures.graph c.requires.forest c.requires.apart c.requires.edge c.index-now.ensures in
    omega (arith, ints, b.low, b.most, b.small, b.is)

pub raise_to-requires-clause-top : goal.raise_to-requires-clause-top
raise_to-requires-clause-top c =
    let b = edge_at_most c.args.frame.now c.args.limit _ _ _ c.args.groups.now c.args.e _ c.nodes.ensures.graph c.requires.forest c.requires.apart c.requires.edge c.index-now.ensures in
    omega (arith, ints, b.low, b.most, b.small, b.is)

pub returns-clause-raised : goal.returns-clause-raised
returns-clause-raised c =
    let b = edge_at_most c.args.frame.now c.args.limit _ _ _ c.args.groups.now c.args.e _ c.nodes.ensures.graph c.requires.forest c.requires.apart c.requires.edge c.index-now.ensures in
    let same : to_z w128 (of_z w128 (to_z w128 (of_z w128 c.index-now.result.now) +ℤ to_z w128 (of_z w128 (to_z w128 (of_z w128 c.args.limit) +ℤ pos 1))))
    ≡ at_arc c.args.charges.now.vector.items c.args.e +ℤ (c.args.limit +ℤ pos 1) = omega (arith, ints, b.low, b.most, b.small, b.is) in
    let P : ℤ → Type 0 = λ x. IsRaised c.args.frame.now c.args.charges.now.vector.items c.args.groups.now c.raise_to.new.charges.vector.items c.raise_to.new.groups c.args.e x in
    subst P same c.raise_to.ensures.raised

pub returns-clause-joined : goal.returns-clause-joined
returns-clause-joined c =
    let b = edge_at_most c.args.frame.now c.args.limit _ _ _ c.args.groups.now c.args.e _ c.nodes.ensures.graph c.requires.forest c.requires.apart c.requires.edge c.index-now.ensures in
    let past : to_z w128 (of_z w128 c.args.limit)
    <ℤ to_z w128 (of_z w128 (to_z w128 (of_z w128 c.index-now.result.now) +ℤ to_z w128 (of_z w128 (to_z w128 (of_z w128 c.args.limit) +ℤ pos 1)))) =
    omega (arith, ints, b.low, b.most, b.small, b.is) in
    raise_joins c.args.frame.now _ c.args.charges.now.vector.items c.raise_to.new.charges.vector.items c.raise_to.new.charges.heads.items c.raise_to.new.charges.rooms.items c.args.groups.now c.raise_to.new.groups c.args.e _
    c.nodes.ensures.graph c.raise_to.ensures.forest c.requires.apart c.requires.edge c.raise_to.ensures.raised past
