use Rattle.std.proofs.Common.{◌≡◌, ◌<◌, length, arith, ap, inl, inr, to_z, of_z, ◌∙◌}
use Rattle.std.specs.Prelude.{◌+ℤ◌}
use Rattle.std.proofs.lemmas.Int.{ints}
use Rattle.std.proofs.lemmas.Bool.{cases_eq}
use Rattle.pf_model.specs.Cut.{at_arc}
use Rattle.pf_frame.proofs.Balances.{raised_length}
use Rattle.pf_closure.proofs.DropLemmas.{slack_here}
use Rattle.pf_closure.proofs.dropping.write_slacks.Goals as goal
use Rattle.pf_model.proofs.Facts.{raised_here, raised_there}

pub items-preserved : goal.items-preserved
items-preserved c =
    let inv = c.items.invariant in
    let there : c.items.i < length c.args.items.now.costs = omega (arith, ap length c.costs-costs.ensures, c.items-test.true) in
    let wide = inv.full in
    let p = c.args.items.now in
    let limits = c.items-count.ensures.items in
    let l = limits.cost_low c.items.i there in
    let h = limits.cost_high c.items.i there in
    let m = limits.problem.heavy c.items.i there in
    let n = limits.weight_high c.items.i there in
    let e = ap (λ xs. at_arc xs c.items.i) c.costs-costs.ensures in
    let f = ap (λ xs. at_arc xs c.items.i) c.weights-weights.ensures in
    let cost : to_z mir.Syntax.w64 (of_z mir.Syntax.w64 (at_arc c.costs-costs.result.now c.items.i)) ≡ at_arc p.costs c.items.i = omega (arith, ints, e, l, h) in
    let weight : to_z mir.Syntax.w64 (of_z mir.Syntax.w64 (at_arc c.weights-weights.result.now c.items.i)) ≡ at_arc p.weights c.items.i = omega (arith, ints, f, m, n) in
    let some = c.reduced_cost-more.ensures.low in
    let most = c.reduced_cost-more.ensures.high in
    let same : to_z mir.Syntax.w128 (of_z mir.Syntax.w128 c.reduced_cost-more.result) ≡ c.reduced_cost-more.result = omega (arith, ints, some, most) in
    record {
      full = let l = raised_length _ _ _ _ c.raise.ensures in omega (arith, l, wide);
      done = λ v less. elim (cases_eq v c.items.i) [
        | inl here ↦ rw here
            (slack_here p c.args.at.now c.args.routing.now c.items.i
            (at_arc c.items.sums c.items.i) (at_arc c.raise.new.sums c.items.i) c.reduced_cost-more.result _ _
            cost weight c.reduced_cost-more.ensures.value (inv.rest c.items.i (omega arith) there)
            (raised_here c.items.sums c.raise.new.sums c.items.i _ (omega (arith, there, wide)) c.raise.ensures
            ∙ ap (λ n. at_arc c.items.sums c.items.i +ℤ n) same))
        | inr other ↦ raised_there c.items.sums c.raise.new.sums c.items.i v _ other c.raise.ensures ∙ inv.done v (omega (arith, less, other))
      ];
      rest = λ v from low. raised_there c.items.sums c.raise.new.sums c.items.i v _ (omega (arith, from)) c.raise.ensures ∙ inv.rest v (omega (arith, from)) low;
      low = λ v from low. rw (raised_there c.items.sums c.raise.new.sums c.items.i v _ (omega (arith, from)) c.raise.ensures) (inv.low v (omega (arith, from)) low);
      high = λ v from low. rw (raised_there c.items.sums c.raise.new.sums c.items.i v _ (omega (arith, from)) c.raise.ensures) (inv.high v (omega (arith, from)) low);
    }
