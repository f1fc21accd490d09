use Rattle.std.proofs.Common.{◌≡◌, ◌<◌, length, to_z, of_z, arith, ap, ◌∙◌}
use Rattle.std.specs.Prelude.{◌*ℤ◌, pos}
use Rattle.std.proofs.lemmas.Int.{ints}
use Rattle.pf_model.specs.Cut.{at_arc}
use Rattle.pf_model.proofs.Integers.{mul_nonneg}
use Rattle.pf_reinforce.proofs.Gains.{next_cost, whole_cost, product_high}
use Rattle.pf_reinforce.proofs.sums.cost_of.Goals as goal
use mir.Syntax.{w128}

pub edges-preserved : goal.edges-preserved
edges-preserved c =
    let i = c.edges.i in
    let in_range : c.edges.i < length c.args.graph.now.ends = omega (arith, c.edges-test.true, c.edges-i-end.ensures) in
    let low = c.requires.low c.edges.i in_range in
    let high = c.requires.high c.edges.i in_range in
    let small = c.frame.ensures.limits.prices c.edges.i in_range in
    let number : to_z w128 (of_z w128 (at_arc c.args.added.now c.edges.i)) ≡ at_arc c.args.added.now c.edges.i = omega (arith, ints, low, high) in
    let value : c.pay-sum.result ≡ at_arc c.args.graph.now.prices c.edges.i *ℤ at_arc c.args.added.now c.edges.i =
    c.pay-sum.ensures ∙ (ap (λ z. pos c.price-price.result *ℤ z) number ∙ ap (λ z. z *ℤ at_arc c.args.added.now c.edges.i) c.price-price.ensures) in
    let p = small.low in
    let q = small.high in
    let most = product_high (at_arc c.args.graph.now.prices c.edges.i) (at_arc c.args.added.now c.edges.i) (omega (arith, ints, p)) (omega (arith, ints, q)) low high in
    let least = mul_nonneg (at_arc c.args.graph.now.prices c.edges.i) (at_arc c.args.added.now c.edges.i) (omega (arith, ints, p)) low in
    let sum_low = c.edges.invariant.low in
    let sum_high = c.edges.invariant.high in
    let few = c.frame.ensures.limits.edges in
    next_cost c.args.graph.now.prices c.args.added.now c.edges.i _ _ (omega (arith, c.requires.full, c.frame.ensures.limits.graph.prices_full))
    (omega (arith, in_range, c.frame.ensures.limits.graph.prices_full)) (omega (arith, ints, p)) (omega (arith, ints, q)) low high
    (omega (arith, ints, value, most, least, sum_low, sum_high, few, in_range)) c.edges.invariant

pub returns : goal.returns
returns c =
    whole_cost _ _ _ _ (omega (arith, c.requires.full, c.frame.ensures.limits.graph.prices_full))
    (omega (arith, c.edges-test.false, c.edges-i-end.ensures, c.frame.ensures.limits.graph.prices_full)) c.edges.invariant
