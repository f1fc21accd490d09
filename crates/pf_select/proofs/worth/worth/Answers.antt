use Rattle.std.proofs.Common.{length, ap, sym, arith, ◌∙◌}
use Rattle.std.proofs.lemmas.Int.{ints}
use Rattle.std.specs.Prelude.{pos, ◌*ℤ◌}
use Rattle.pf_model.specs.Cut.{has}
use Rattle.pf_rat.proofs.Products.{comes_back}
use Rattle.pf_select.specs.Problem.{sum_of}
use Rattle.pf_select.proofs.Slacks.{small_numbers, length_pos}
use Rattle.pf_select.proofs.Gains.{gains_of}
use Rattle.pf_select.proofs.worth.worth.Goals as goal

pub sum_marked-gain-requires-clause-few : goal.sum_marked-gain-requires-clause-few
sum_marked-gain-requires-clause-few c =
    let few = c.parts.ensures.limits.few_products in
    omega (arith, few, ap length c.gains.ensures ∙ length_pos c.gains.result.now)

pub sum_marked-gain-requires-clause-small : goal.sum_marked-gain-requires-clause-small
sum_marked-gain-requires-clause-small c =
    small_numbers c.args.catalogue.now.gains c.gains.result.now c.gains.ensures c.parts.ensures.limits.gain_high

pub sum_marked-cost-requires-clause-few : goal.sum_marked-cost-requires-clause-few
sum_marked-cost-requires-clause-few c =
    let few = c.parts.ensures.limits.few_parts in
    omega (arith, few, ap length c.costs.ensures ∙ length_pos c.costs.result.now)

pub sum_marked-cost-requires-clause-small : goal.sum_marked-cost-requires-clause-small
sum_marked-cost-requires-clause-small c =
    small_numbers c.args.catalogue.now.costs c.costs.result.now c.costs.ensures c.parts.ensures.limits.cost_high

pub returns-clause-value : goal.returns-clause-value
returns-clause-value c =
    let f = c.q.ensures.bounds in
    let pe = c.p.ensures.value in
    let qe = c.q-2.ensures.value in
    let p = c.args.catalogue.now in
    let x = c.args.price.now in
    let wide = c.mark_gained.ensures.full in
    let gained = c.sum_marked-gain.ensures.sum
    ∙ gains_of p c.args.set.now c.mark_gained.new.products c.gains.result.now c.mark_gained.ensures.gained c.gains.ensures (omega (arith, wide, c.requires.places)) in
    let paid = c.sum_marked-cost.ensures.sum ∙ sym (ap (sum_of (has c.args.set.now)) c.costs.ensures) in
    let a = c.scaled.ensures.value ∙ ap (λ n. n *ℤ pos c.sum_marked-gain.result) (comes_back c.q-2.result (omega (arith, ints, f.parameter, f.q_high, qe)) ∙ qe)
    ∙ ap (λ n. x.q *ℤ n) gained in
    let b = c.scaled-2.ensures.value ∙ ap (λ n. n *ℤ pos c.sum_marked-cost.result) (comes_back c.p.result (omega (arith, ints, f.p_low, f.p_high, pe)) ∙ pe)
    ∙ ap (λ n. x.p *ℤ n) paid in
    let l = c.scaled.ensures.low in
    let h = c.scaled.ensures.high in
    let m = c.scaled-2.ensures.low in
    let n = c.scaled-2.ensures.high in
    omega (arith, ints, a, b, l, h, m, n)
