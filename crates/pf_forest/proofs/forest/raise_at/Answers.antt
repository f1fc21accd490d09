use Rattle.std.proofs.Common.{◌≡◌, ℕ, to_z, of_z, arith, ap, subst}
use Rattle.std.proofs.lemmas.Int.{ints}
use Rattle.pf_model.specs.Digraph.{Digraph}
use Rattle.pf_graph.specs.Labels.{Refines}
use Rattle.pf_forest.proofs.Standing.{forest_here, coarser_of}
use Rattle.pf_forest.proofs.forest.raise_at.Goals as goal
use mir.Syntax.{w128}

pub returns-clause-standing : goal.returns-clause-standing
returns-clause-standing c =
    let v = c.p-limit.ensures.value in
    let b = c.p-limit.ensures.bounds in
    let same : to_z w128 (of_z w128 c.p-limit.result) ≡ c.args.level.now.p = omega (arith, ints, v, b.p_low, b.p_high) in
    record {
      forest = forest_here _ _ _ _ _ _ _ _ c.frame-frame.ensures.frame same c.raise.ensures.forest;
      labels_are = c.regroup.ensures;
    }

pub returns-clause-coarser : goal.returns-clause-coarser
returns-clause-coarser c =
    let nodes : c.frame-frame.result.now.nodes ≡ c.args.graph.now.nodes = ap (λ (g : Digraph). g.nodes) c.frame-frame.ensures.frame in
    let P : ℕ → Type 0 = λ n. Refines n c.args.groups.now c.raise.new.groups in
    let full = c.raise.ensures.forest.full in
    coarser_of c.args.graph.now.nodes c.args.groups.now c.raise.new.groups c.args.partition.now c.regroup.new.self c.requires.standing.forest.full
    (omega (arith, full, nodes)) c.requires.standing.labels_are c.regroup.ensures (subst P nodes c.raise.ensures.raised.refines)
