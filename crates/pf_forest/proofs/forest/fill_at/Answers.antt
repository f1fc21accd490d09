use Rattle.std.proofs.Common.{◌≡◌, to_z, of_z, arith, subst}
use Rattle.std.proofs.lemmas.Int.{ints}
use Rattle.pf_model.specs.Digraph.{Digraph}
use Rattle.pf_forest.specs.Filling.{IsStanding, AreWithinGoals}
use Rattle.pf_forest.proofs.Standing.{forest_here, goals_here, level_here, filled_of}
use Rattle.pf_forest.proofs.forest.fill_at.Goals as goal
use mir.Syntax.{w128}

pub fill-requires-clause-goals : goal.fill-requires-clause-goals
fill-requires-clause-goals c =
    let v = c.q-q.ensures.value in
    let b = c.q-q.ensures.bounds in
    let parameter = b.parameter in
    let same : to_z w128 (of_z w128 c.q-q.result) ≡ c.args.level.now.q = omega (arith, ints, v, parameter, b.q_high) in
    goals_here c.args.graph.now c.frame-frame.result.now c.args.level.now.q _ _ c.frame-frame.ensures.frame c.frame-frame.ensures.limits parameter b.q_high same c.write_goals.ensures

pub returns-clause-standing : goal.returns-clause-standing
returns-clause-standing c =
    let v = c.p-limit.ensures.value in
    let b = c.p-limit.ensures.bounds in
    let same : to_z w128 (of_z w128 c.p-limit.result) ≡ c.args.level.now.p = omega (arith, ints, v, b.p_low, b.p_high) in
    record {
      forest = forest_here _ _ _ _ _ _ _ _ c.frame-frame.ensures.frame same c.fill.ensures.forest;
      labels_are = c.regroup.ensures;
    }

pub returns-clause-at_level : goal.returns-clause-at_level
returns-clause-at_level c =
    let v = c.q-q.ensures.value in
    let b = c.q-q.ensures.bounds in
    let parameter = b.parameter in
    let same : to_z w128 (of_z w128 c.q-q.result) ≡ c.args.level.now.q = omega (arith, ints, v, parameter, b.q_high) in
    level_here c.args.graph.now c.frame-frame.result.now c.args.level.now _ _ _ _ c.frame-frame.ensures.frame parameter c.requires.low same c.write_goals.ensures
    c.fill.ensures.crossing

pub returns-clause-filled : goal.returns-clause-filled
returns-clause-filled c =
    let v = c.q-q.ensures.value in
    let b = c.q-q.ensures.bounds in
    let parameter = b.parameter in
    let same : to_z w128 (of_z w128 c.q-q.result) ≡ c.args.level.now.q = omega (arith, ints, v, parameter, b.q_high) in
    let at_level = level_here c.args.graph.now c.frame-frame.result.now c.args.level.now _ _ _ _ c.frame-frame.ensures.frame parameter c.requires.low same c.write_goals.ensures
    c.fill.ensures.crossing in
    let v' = c.p-limit.ensures.value in
    let same' : to_z w128 (of_z w128 c.p-limit.result) ≡ c.args.level.now.p = omega (arith, ints, v', b.p_low, b.p_high) in
    let standing : IsStanding c.args.graph.now c.args.level.now.p c.fill.new.charges.vector.items c.fill.new.charges.heads.items c.fill.new.charges.rooms.items c.fill.new.groups c.regroup.new.self = record {
      forest = forest_here _ _ _ _ _ _ _ _ c.frame-frame.ensures.frame same' c.fill.ensures.forest;
      labels_are = c.regroup.ensures;
    } in
    let P : Digraph → Type 0 = λ h. AreWithinGoals h c.write_goals.new.goals c.fill.new.charges.vector.items in
    filled_of c.args.graph.now c.args.level.now _ _ _ _ _ _ c.frame-frame.ensures.limits.graph standing at_level (subst P c.frame-frame.ensures.frame c.fill.ensures.within)
