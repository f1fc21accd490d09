use Rattle.std.proofs.Common.{◌≡◌, length, arith, ap, refl, to_z, of_z, ◌∙◌}
use Rattle.std.proofs.lemmas.Int.{ints}
use Rattle.pf_model.specs.Fraction.{lowest}
use Rattle.pf_closure.specs.Problem.{cost_of, weight_of}
use Rattle.pf_closure.specs.Reduction.{items_of}
use Rattle.pf_closure.proofs.RatioLemmas.{weighed, ratio_bounded, ratio_of_set}
use Rattle.pf_closure.proofs.SideSums.{sum_at, items_length}
use Rattle.pf_closure.proofs.sums.ratio_of.Goals as goal

pub new-requires : goal.new-requires
new-requires c =
    let p = c.args.items.now in
    let set = items_of p c.args.side.now in
    let w = weighed p set c.items.ensures.items (items_length c.args.side.now (length p.costs) c.requires.full) c.requires.some in
    let cost : c.sum_in-cost.result ≡ cost_of p set = sum_at c.args.side.now c.costs.result.now p.costs (length p.costs) _ c.costs.ensures refl c.sum_in-cost.ensures in
    let weight : c.sum_in-weight.result ≡ weight_of p set =
    sum_at c.args.side.now c.weights.result.now p.weights (length p.costs) _ c.weights.ensures c.items.ensures.items.problem.full c.sum_in-weight.ensures in
    let l = w.low in
    let h = w.high in
    let m = w.heavy in
    let n = w.light in
    let first : to_z mir.Syntax.w128 (of_z mir.Syntax.w128 c.sum_in-cost.result) ≡ cost_of p set = omega (arith, ints, cost, l, h, m, n) in
    let second : to_z mir.Syntax.w128 (of_z mir.Syntax.w128 c.sum_in-weight.result) ≡ weight_of p set = omega (arith, ints, weight, m, n) in
    rw (first, second) (ratio_bounded p set w)

pub returns : goal.returns
returns c =
    let p = c.args.items.now in
    let set = items_of p c.args.side.now in
    let w = weighed p set c.items.ensures.items (items_length c.args.side.now (length p.costs) c.requires.full) c.requires.some in
    let cost : c.sum_in-cost.result ≡ cost_of p set = sum_at c.args.side.now c.costs.result.now p.costs (length p.costs) _ c.costs.ensures refl c.sum_in-cost.ensures in
    let weight : c.sum_in-weight.result ≡ weight_of p set =
    sum_at c.args.side.now c.weights.result.now p.weights (length p.costs) _ c.weights.ensures c.items.ensures.items.problem.full c.sum_in-weight.ensures in
    let l = w.low in
    let h = w.high in
    let m = w.heavy in
    let n = w.light in
    let first : to_z mir.Syntax.w128 (of_z mir.Syntax.w128 c.sum_in-cost.result) ≡ cost_of p set = omega (arith, ints, cost, l, h, m, n) in
    let second : to_z mir.Syntax.w128 (of_z mir.Syntax.w128 c.sum_in-weight.result) ≡ weight_of p set = omega (arith, ints, weight, m, n) in
    let r = ratio_of_set p set c.new.result w
    (c.new.ensures.value ∙ ap (λ z. lowest (record { p = z; q = to_z mir.Syntax.w128 (of_z mir.Syntax.w128 c.sum_in-weight.result) })) first
    ∙ ap (λ z. lowest (record { p = cost_of p set; q = z })) second) in
    record { ratio = r.ratio; inside = r.inside; small = r.small; shape = record { bounds = c.new.ensures.bounds; lowest = c.new.ensures.lowest } }
