use Rattle.std.proofs.Common.{◌≡◌, to_z, of_z, arith, subst}
use Rattle.std.specs.Prelude.{ℤ, ◌-ℤ◌, pos}
use Rattle.std.proofs.lemmas.Int.{ints}
use Rattle.pf_model.specs.Fraction.{IsEqual}
use Rattle.pf_graph.specs.Labels.{parts}
use Rattle.pf_graph.specs.Best.{crossing_of}
use Rattle.pf_graph.proofs.Counting.{parts_most}
use Rattle.pf_forest.proofs.Bounds.{crossing_small}
use Rattle.pf_strength.proofs.Steps.{ratio_of}
use Rattle.pf_strength.proofs.newton.ratio.Goals as goal
use mir.Syntax.{w128}

pub new-requires : goal.new-requires
new-requires c =
    let small = crossing_small c.args.graph.now c.args.partition.now c.frame.ensures.limits in
    let low = small.low in
    let high = small.high in
    let crossing = c.crossing-crossing.ensures in
    let most = parts_most c.args.partition.now in
    let few = c.frame.ensures.limits.nodes in
    let count = c.parts-parts.ensures in
    let first = c.from.ensures in
    record {
      p_low = omega (arith, ints, low, high, crossing);
      p_high = omega (arith, ints, low, high, crossing);
      parameter = omega (arith, ints, most, few, count, first, c.requires.two, c.requires.full);
      q_high = omega (arith, ints, most, few, count, first, c.requires.two, c.requires.full);
    }

pub returns : goal.returns
returns c =
    let small = crossing_small c.args.graph.now c.args.partition.now c.frame.ensures.limits in
    let low = small.low in
    let high = small.high in
    let crossing = c.crossing-crossing.ensures in
    let most = parts_most c.args.partition.now in
    let few = c.frame.ensures.limits.nodes in
    let count = c.parts-parts.ensures in
    let first = c.from.ensures in
    let a : to_z w128 (of_z w128 c.crossing-crossing.result) ≡ crossing_of c.args.graph.now c.args.partition.now = omega (arith, ints, low, high, crossing) in
    let b : to_z w128 (of_z w128 (to_z w128 (of_z w128 c.from.result) -ℤ pos 1)) ≡ pos (parts c.args.partition.now) -ℤ pos 1 =
    omega (arith, ints, most, few, count, first, c.requires.two, c.requires.full) in
    let A : ℤ → Type 0 = λ z. IsEqual c.new.result (record { p = z; q = to_z w128 (of_z w128 (to_z w128 (of_z w128 c.from.result) -ℤ pos 1)) }) in
    let B : ℤ → Type 0 = λ z. IsEqual c.new.result (record { p = crossing_of c.args.graph.now c.args.partition.now; q = z }) in
    ratio_of c.args.graph.now c.new.result c.args.partition.now c.frame.ensures.limits.graph c.new.ensures.bounds.parameter c.requires.two
    (subst B b (subst A a c.new.ensures.equal))
