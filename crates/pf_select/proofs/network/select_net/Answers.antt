use Rattle.std.proofs.Common.{◌≡◌, ◌+◌, length, arith, to_z, of_z, ap, sym, subst, ◌∙◌}
use Rattle.std.specs.Prelude.{ℤ, pos}
use Rattle.std.proofs.lemmas.Int.{ints}
use Rattle.pf_model.specs.Fraction.{Fraction}
use Rattle.pf_net.specs.Limits.{IsBuilt}
use Rattle.pf_select.proofs.ArcLemmas.{same_net}
use Rattle.pf_select.proofs.NetBuilt.{net_built}
use Rattle.pf_select.proofs.Slacks.{small_numbers}
use Rattle.pf_select.proofs.network.select_net.Goals as goal

pub whole_gain-requires-clause-small : goal.whole_gain-requires-clause-small
whole_gain-requires-clause-small c =
    small_numbers c.args.catalogue.now.gains c.gains-gains.result.now c.gains-gains.ensures c.parts-parts.ensures.limits.gain_high

pub from_arcs-requires : goal.from_arcs-requires
from_arcs-requires c =
    let p = c.args.catalogue.now in
    let n = c.parts-parts.ensures.value in
    let count = ap (λ k. k + c.products.result + 1) n ∙ ap (λ k. length p.costs + k + 1) c.products.ensures in
    let from = c.from.ensures in
    let small = c.whole_gain.ensures.small in
    let above : to_z mir.Syntax.w128 (of_z mir.Syntax.w128 c.from.result) ≡ pos (c.whole_gain.result + 1) = omega (arith, ints, from, small) in
    let high = c.from_integer-high.ensures ∙ ap (λ (m : ℤ). let x : Fraction = record { p = m; q = pos 1 } in x) above in
    let same = same_net p _ c.parts-parts.result c.whole_gain.result c.costs.result.now c.gains-gains.result.now c.from_integer-low.result c.from_integer-high.result
    c.push_parts.new.arcs.items c.push_needs.new.arcs.items c.push_products.new.arcs.items n count c.costs.ensures c.gains-gains.ensures
    c.from_integer-low.ensures high c.whole_gain.ensures.sum c.in_ok-push_parts.ensures c.in_ok-push_needs.ensures c.in_ok-push_products.ensures in
    subst IsBuilt (sym same) (net_built p c.parts-parts.ensures.limits)
