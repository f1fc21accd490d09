use Rattle.std.proofs.Common.{◌≡◌, to_z, of_z, arith, ap, sym, subst, ◌∙◌}
use Rattle.std.specs.Prelude.{◌*ℤ◌, pos}
use Rattle.std.proofs.lemmas.Int.{ints}
use Rattle.pf_graph.specs.WeightedGraph.{WeightedGraph}
use Rattle.pf_graph.specs.Labels.{parts}
use Rattle.pf_forest.specs.Forest.{IsFilled}
use Rattle.pf_reinforce.proofs.Certificate.{once}
use Rattle.pf_reinforce.proofs.Connected.{components, blocked_by, connected_by, told_more, told_few}
use Rattle.pf_reinforce.proofs.reinforcement.is_blocked.Goals as goal
use mir.Syntax.{w128}

pub returns-clause-blocked : goal.returns-clause-blocked
returns-clause-blocked c = λ more.
    let P : WeightedGraph → Type 0 = λ g. IsFilled g c.new-least.result c.fill.new.self.vector c.fill.new.self.labels in
    let filled = subst P (c.fill.ensures.graph ∙ c.requires) c.fill.ensures.filled in
    let n : to_z w128 (of_z w128 c.from.result) ≡ pos c.args.graph.now.nodes = omega (arith, ints, c.from.ensures, c.vertices.ensures.value, c.vertices.ensures.limits.nodes) in
    let e : c.new-least.result.p *ℤ pos c.args.graph.now.nodes ≡ c.new-least.result.q =
    ap (λ z. c.new-least.result.p *ℤ z) (sym n) ∙ (c.new-least.ensures.equal ∙ once c.new-least.result.q) in
    let a = components c.args.graph.now c.new-least.result c.fill.new.self.labels c.vertices.ensures.limits c.new-least.ensures.bounds.parameter e filled.best in
    let count : c.parts.result ≡ parts c.fill.new.self.labels = c.parts.ensures ∙ ap parts c.partition.ensures in
    blocked_by c.args.graph.now c.args.level.now c.fill.new.self.labels a filled.keeps.partition (omega (arith, ints, c.if-p-none.false, c.p.ensures.value)) (told_more _ _ more count)

pub returns-clause-connected : goal.returns-clause-connected
returns-clause-connected c = λ few.
    let P : WeightedGraph → Type 0 = λ g. IsFilled g c.new-least.result c.fill.new.self.vector c.fill.new.self.labels in
    let filled = subst P (c.fill.ensures.graph ∙ c.requires) c.fill.ensures.filled in
    let n : to_z w128 (of_z w128 c.from.result) ≡ pos c.args.graph.now.nodes = omega (arith, ints, c.from.ensures, c.vertices.ensures.value, c.vertices.ensures.limits.nodes) in
    let e : c.new-least.result.p *ℤ pos c.args.graph.now.nodes ≡ c.new-least.result.q =
    ap (λ z. c.new-least.result.p *ℤ z) (sym n) ∙ (c.new-least.ensures.equal ∙ once c.new-least.result.q) in
    let a = components c.args.graph.now c.new-least.result c.fill.new.self.labels c.vertices.ensures.limits c.new-least.ensures.bounds.parameter e filled.best in
    let count : c.parts.result ≡ parts c.fill.new.self.labels = c.parts.ensures ∙ ap parts c.partition.ensures in
    connected_by c.args.graph.now c.args.level.now c.fill.new.self.labels a (told_few _ _ few count)
