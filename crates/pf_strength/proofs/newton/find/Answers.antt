use Rattle.std.proofs.Common.{◌≡◌, ℕ, List, to_z, of_z, arith, ap, ◌∙◌, subst}
use Rattle.std.proofs.lemmas.Int.{ints}
use Rattle.pf_graph.specs.WeightedGraph.{WeightedGraph}
use Rattle.pf_graph.specs.Labels.{parts, IsPartitionOf}
use Rattle.pf_graph.specs.Best.{partition_value}
use Rattle.pf_forest.specs.Forest.{IsFilled}
use Rattle.pf_strength.proofs.Steps.{step_begins, step_better, step_goes_on, step_ends, same_labels}
use Rattle.pf_strength.proofs.newton.find.Goals as goal
use mir.Syntax.{w128}

pub steps-init : goal.steps-init
steps-init c =
    let same : c.fill.new.self.graph ≡ c.args.graph.now = c.fill.ensures.graph ∙ c.requires.graph in
    let P : WeightedGraph → Type 0 = λ g. IsFilled g c.ratio-level.result c.fill.new.self.vector c.fill.new.self.labels in
    let bits : to_z w128 (of_z w128 c.partition_value-found.result) ≡ c.partition_value-found.result = omega (arith, ints) in
    let value = bits ∙ c.partition_value-found.ensures ∙ ap (λ (l : List ℕ). partition_value c.args.graph.now l c.ratio-level.result) c.partition.ensures in
    step_begins _ _ _ _ _ c.frame.ensures.limits.graph c.requires.partition c.requires.single c.requires.two c.ratio-level.ensures same c.fill.ensures.level
    (subst P same c.fill.ensures.filled) value

pub ratio-level-requires-in-steps-clause-two : goal.ratio-level-requires-in-steps-clause-two
ratio-level-requires-in-steps-clause-two c =
    let less = c.steps-test.true in
    let better = step_better _ _ _ _ _ c.frame.ensures.limits.graph c.steps.invariant (omega (arith, ints, less)) in
    let P : List ℕ → Type 0 = λ l. IsPartitionOf l c.regroup.new.self in
    let of = subst P (c.labels.ensures.value ∙ c.partition-in-steps.ensures) c.regroup.ensures in
    let e = same_labels _ _ _ c.steps.invariant.filled.keeps.partition of in
    let two = better.two in
    let f = ap parts e in
    omega (arith, two, f)

pub steps-smaller : goal.steps-smaller
steps-smaller c =
    let less = c.steps-test.true in
    let better = step_better _ _ _ _ _ c.frame.ensures.limits.graph c.steps.invariant (omega (arith, ints, less)) in
    let P : List ℕ → Type 0 = λ l. IsPartitionOf l c.regroup.new.self in
    let of = subst P (c.labels.ensures.value ∙ c.partition-in-steps.ensures) c.regroup.ensures in
    let e = same_labels _ _ _ c.steps.invariant.filled.keeps.partition of in
    let fewer = better.fewer in
    let f = ap parts e in
    omega (arith, fewer, f)

pub steps-preserved : goal.steps-preserved
steps-preserved c =
    let less = c.steps-test.true in
    let P : List ℕ → Type 0 = λ l. IsPartitionOf l c.regroup.new.self in
    let of = subst P (c.labels.ensures.value ∙ c.partition-in-steps.ensures) c.regroup.ensures in
    let same : c.fill-in-steps.new.self.graph ≡ c.args.graph.now = c.fill-in-steps.ensures.graph ∙ c.steps.invariant.graph in
    let Q : WeightedGraph → Type 0 = λ g. IsFilled g c.ratio-level-in-steps.result c.fill-in-steps.new.self.vector c.fill-in-steps.new.self.labels in
    let bits : to_z w128 (of_z w128 c.partition_value-found-in-steps.result) ≡ c.partition_value-found-in-steps.result = omega (arith, ints) in
    let value = bits ∙ c.partition_value-found-in-steps.ensures ∙ ap (λ (l : List ℕ). partition_value c.args.graph.now l c.ratio-level-in-steps.result) c.partition-in-steps-2.ensures in
    step_goes_on _ _ _ _ _ _ _ _ _ c.frame.ensures.limits.graph c.steps.invariant (omega (arith, ints, less)) of c.ratio-level-in-steps.ensures same
    c.fill-in-steps.ensures.level (subst Q same c.fill-in-steps.ensures.filled) value

pub returns : goal.returns
returns c =
    let more = c.steps-test.false in
    step_ends _ _ _ _ _ c.frame.ensures.limits.graph c.steps.invariant (omega (arith, ints, more))
