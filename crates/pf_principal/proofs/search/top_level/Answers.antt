use Rattle.std.proofs.Common.{◌≡◌, to_z, of_z, arith, ap, ◌∙◌}
use Rattle.std.specs.Prelude.{ℤ, ◌+ℤ◌, pos}
use Rattle.std.proofs.lemmas.Int.{ints}
use Rattle.pf_model.specs.Fraction.{lowest}
use Rattle.pf_graph.specs.WeightedGraph.{total}
use Rattle.pf_graph.proofs.Levels.{crossing_single}
use Rattle.pf_forest.proofs.Bounds.{crossing_small}
use Rattle.pf_principal.proofs.Levels.{whole_stays}
use Rattle.pf_principal.proofs.search.top_level.Goals as goal
use mir.Syntax.{w128}

pub overflow_add-total : goal.overflow_add-total
overflow_add-total c =
    let small = crossing_small c.args.graph.now c.args.single.now c.frame.ensures.limits in
    let low = small.low in
    let high = small.high in
    let crossing = c.crossing-total.ensures in
    omega (arith, ints, low, high, crossing)

pub new-requires : goal.new-requires
new-requires c =
    let small = crossing_small c.args.graph.now c.args.single.now c.frame.ensures.limits in
    let low = small.low in
    let high = small.high in
    let crossing = c.crossing-total.ensures in
    record {
      p_low = omega (arith, ints, low, high, crossing);
      p_high = omega (arith, ints, low, high, crossing);
      parameter = omega (arith, ints);
      q_high = omega (arith, ints);
    }

pub returns : goal.returns
returns c =
    let small = crossing_small c.args.graph.now c.args.single.now c.frame.ensures.limits in
    let low = small.low in
    let high = small.high in
    let crossing = c.crossing-total.ensures in
    let all = crossing_single c.args.graph.now c.args.single.now c.frame.ensures.limits.graph c.requires.full c.requires.single in
    let e : to_z w128 (of_z w128 (to_z w128 (of_z w128 c.crossing-total.result) +ℤ pos 1)) ≡ total c.args.graph.now.ends c.args.graph.now.weights +ℤ pos 1 =
    omega (arith, ints, low, high, crossing, all) in
    c.new.ensures.value ∙ ap (λ (z : ℤ). lowest (record { p = z; q = pos 1 })) e ∙ whole_stays (total c.args.graph.now.ends c.args.graph.now.weights +ℤ pos 1)
