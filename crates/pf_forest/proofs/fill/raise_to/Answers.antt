use Rattle.std.proofs.Common.{◌≡◌, ℕ, List, to_z, of_z, arith, refl, ap, sym, ◌∙◌, subst}
use Rattle.std.specs.Prelude.{ℤ, ◌-ℤ◌, ◌≤ℤ◌, ◌<ℤ◌}
use Rattle.std.proofs.lemmas.Int.{ints}
use Rattle.pf_model.specs.Cut.{at_arc}
use Rattle.pf_forest.specs.Held.{HasTables}
use Rattle.pf_forest.specs.Filling.{IsLifted, IsRaised}
use Rattle.pf_forest.proofs.Lent.{number_read}
use Rattle.pf_forest.proofs.Raise.{raise_full, raise_joined, forest_put, bounds_of}
use Rattle.pf_forest.proofs.fill.raise_to.Goals as goal
use mir.Syntax.{w128}

pub overflow_sub-want : goal.overflow_sub-want
overflow_sub-want c =
    let now : c.index-now.result.now ≡ at_arc c.args.charges.now.vector.items c.args.e =
    number_read c.bare.new.charges.vector.items c.args.e _ c.index-now.ensures (omega (arith, c.requires.edge, c.bare.ensures.held.vector_full)) ∙ ap (λ l. at_arc l c.args.e) c.bare.ensures.vector in
    let low = c.requires.forest.held.low c.args.e c.requires.edge in
    let high = c.requires.forest.held.high c.args.e c.requires.edge in
    omega (arith, ints, low, high, c.requires.goal, c.requires.top, now)

pub lift-requires-clause-bounds : goal.lift-requires-clause-bounds
lift-requires-clause-bounds c =
    bounds_of c.args.frame.now _ _ _ _ c.head-v.result c.args.e c.gather-full.ensures.held c.head-v.ensures.node c.requires.edge

pub lift-requires-clause-goal : goal.lift-requires-clause-goal
lift-requires-clause-goal c =
    let here = ap (λ l. at_arc l c.args.e) (c.gather-full.ensures.vector ∙ c.bare.ensures.vector) in
    omega (arith, ints, here, c.requires.goal)

pub unite-requires-clause-tables : goal.unite-requires-clause-tables
unite-requires-clause-tables c =
    let P : ℕ → Type 0 = λ n. HasTables n c.gather-full.new.workspace in
    subst P (sym c.requires.forest.full) c.gather-full.ensures.tables

pub unite-requires-clause-low : goal.unite-requires-clause-low
unite-requires-clause-low c = rw c.requires.forest.full c.requires.forest.low

pub returns-then-not-full : goal.returns-then-not-full
returns-then-not-full c =
    let same : to_z w128 (of_z w128 c.args.limit) ≡ c.args.limit = omega (arith, ints) in
    let same_goal : to_z w128 (of_z w128 c.args.goal) ≡ c.args.goal = omega (arith, ints) in
    let vector = c.gather-full.ensures.vector ∙ c.bare.ensures.vector in
    let here : at_arc c.gather-full.new.charges.vector.items c.args.e ≡ at_arc c.args.charges.now.vector.items c.args.e = ap (λ l. at_arc l c.args.e) vector in
    let now : c.index-now.result.now ≡ at_arc c.args.charges.now.vector.items c.args.e =
    number_read c.bare.new.charges.vector.items c.args.e _ c.index-now.ensures (omega (arith, c.requires.edge, c.bare.ensures.held.vector_full)) ∙ ap (λ l. at_arc l c.args.e) c.bare.ensures.vector in
    let low = c.requires.forest.held.low c.args.e c.requires.edge in
    let high = c.requires.forest.held.high c.args.e c.requires.edge in
    let few = c.if-not-full.ensures.few refl in
    let less : at_arc c.gather-full.new.charges.rooms.items c.head-v.result <ℤ (c.args.goal -ℤ at_arc c.gather-full.new.charges.vector.items c.args.e) =
    omega (arith, ints, low, high, c.requires.goal, c.requires.top, few, now, here) in
    let P : ℤ → Type 0 = λ x. IsLifted c.gather-full.new.charges.vector.items c.gather-full.new.charges.heads.items c.gather-full.new.charges.rooms.items c.head-v.result c.args.e x
    c.lift.new.charges.vector.items c.lift.new.charges.heads.items c.lift.new.charges.rooms.items in
    let R : List ℤ → Type 0 = λ l. IsRaised c.args.frame.now l c.args.groups.now c.lift.new.charges.vector.items c.unite.new.groups c.args.e c.args.goal in
    let S : ℕ → Type 0 = λ n. HasTables n c.unite.new.workspace in
    let l = subst P same_goal c.lift.ensures.lifted in
    let ready = forest_put c.args.frame.now c.args.limit _ _ _ _ _ _ _ c.args.groups.now c.tail-u.result c.head-v.result c.args.e l.amount same vector c.requires.forest
    c.gather-full.ensures.held c.gather-full.ensures.skip c.nodes.ensures.graph c.requires.edge c.tail-u.ensures.value c.head-v.ensures.value c.requires.apart l.low l.fits in
    let raised = raise_joined c.args.frame.now c.args.limit _ _ _ c.args.groups.now c.tail-u.result c.head-v.result c.args.e
    l.amount c.args.goal _ _ _ c.gather-full.new.workspace.side.items _ _ c.unite.new.groups ready.0 ready.1 c.if-groups-u.false (l.all less) l.most
    l.vector_is l.heads_is l.rooms_is c.gather-full.ensures.tables.side_full (c.if-not-full.ensures.marked refl) (c.if-not-full.ensures.none refl) (c.if-not-full.ensures.shut refl)
    refl refl c.unite.ensures.joined in
    record {
      forest = raised.0;
      tables = subst S c.requires.forest.full c.unite.ensures.tables;
      raised = subst R vector raised.1;
    }

pub returns-else-not-full : goal.returns-else-not-full
returns-else-not-full c =
    let same : to_z w128 (of_z w128 c.args.limit) ≡ c.args.limit = omega (arith, ints) in
    let same_goal : to_z w128 (of_z w128 c.args.goal) ≡ c.args.goal = omega (arith, ints) in
    let vector = c.gather-full.ensures.vector ∙ c.bare.ensures.vector in
    let here : at_arc c.gather-full.new.charges.vector.items c.args.e ≡ at_arc c.args.charges.now.vector.items c.args.e = ap (λ l. at_arc l c.args.e) vector in
    let now : c.index-now.result.now ≡ at_arc c.args.charges.now.vector.items c.args.e =
    number_read c.bare.new.charges.vector.items c.args.e _ c.index-now.ensures (omega (arith, c.requires.edge, c.bare.ensures.held.vector_full)) ∙ ap (λ l. at_arc l c.args.e) c.bare.ensures.vector in
    let low = c.requires.forest.held.low c.args.e c.requires.edge in
    let high = c.requires.forest.held.high c.args.e c.requires.edge in
    let enough = c.if-not-full.ensures.enough refl in
    let less : (c.args.goal -ℤ at_arc c.gather-full.new.charges.vector.items c.args.e) ≤ℤ at_arc c.gather-full.new.charges.rooms.items c.head-v.result =
    omega (arith, ints, low, high, c.requires.goal, c.requires.top, enough, now, here) in
    let P : ℤ → Type 0 = λ x. IsLifted c.gather-full.new.charges.vector.items c.gather-full.new.charges.heads.items c.gather-full.new.charges.rooms.items c.head-v.result c.args.e x
    c.lift.new.charges.vector.items c.lift.new.charges.heads.items c.lift.new.charges.rooms.items in
    let R : List ℤ → Type 0 = λ l. IsRaised c.args.frame.now l c.args.groups.now c.lift.new.charges.vector.items c.args.groups.now c.args.e c.args.goal in
    let l = subst P same_goal c.lift.ensures.lifted in
    let ready = forest_put c.args.frame.now c.args.limit _ _ _ _ _ _ _ c.args.groups.now c.tail-u.result c.head-v.result c.args.e l.amount same vector c.requires.forest
    c.gather-full.ensures.held c.gather-full.ensures.skip c.nodes.ensures.graph c.requires.edge c.tail-u.ensures.value c.head-v.ensures.value c.requires.apart l.low l.fits in
    let raised = raise_full c.args.frame.now c.args.limit _ _ _ c.args.groups.now c.tail-u.result c.head-v.result c.args.e
    l.amount c.args.goal _ _ _ ready.0 ready.1 c.if-groups-u.false (l.done less) l.vector_is l.heads_is l.rooms_is in
    record {
      forest = raised.0;
      tables = c.gather-full.ensures.tables;
      raised = subst R vector raised.1;
    }
