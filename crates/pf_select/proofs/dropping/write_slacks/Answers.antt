use Rattle.std.proofs.Common.{ℕ, List, length, ap, arith, ◌∙◌, subst}
use Rattle.std.proofs.lemmas.Int.{ints}
use Rattle.pf_rat.proofs.Products.{comes_back}
use Rattle.pf_select.specs.Dropping.{IsTaken}
use Rattle.pf_select.proofs.Slacks.{small_numbers, places_are, slacks_are, product_places, part_places, length_pos}
use Rattle.pf_select.proofs.dropping.write_slacks.Goals as goal

pub write_scaled-requires-clause-small : goal.write_scaled-requires-clause-small
write_scaled-requires-clause-small c =
    small_numbers c.args.catalogue.now.costs c.costs.result.now c.costs.ensures c.parts.ensures.limits.cost_high

pub write_scaled-requires-2-clause-small : goal.write_scaled-requires-2-clause-small
write_scaled-requires-2-clause-small c =
    small_numbers c.args.catalogue.now.gains c.gains.result.now c.gains.ensures c.parts.ensures.limits.gain_high

pub take_charges-requires-clause-products : goal.take_charges-requires-clause-products
take_charges-requires-clause-products c =
    let full = ap length c.gains.ensures ∙ length_pos c.gains.result.now in
    let wide = c.write_scaled-2.ensures.full in
    places_are (λ need. need.0) c.pairs.result.now _ c.gains.result.now c.write_scaled-2.new.sums c.write_scaled-2.ensures.scaled
    (omega (arith, full, wide, c.requires.products))
    (product_places c.args.catalogue.now c.pairs.result.now c.gains.result.now c.parts.ensures.limits.problem c.pairs.ensures c.gains.ensures)

pub take_charges-requires-clause-parts : goal.take_charges-requires-clause-parts
take_charges-requires-clause-parts c =
    let full = ap length c.costs.ensures ∙ length_pos c.costs.result.now in
    let wide = c.write_scaled.ensures.full in
    places_are (λ need. need.1) c.pairs.result.now _ c.costs.result.now c.write_scaled.new.sums c.write_scaled.ensures.scaled
    (omega (arith, full, wide, c.requires.parts))
    (part_places c.args.catalogue.now c.pairs.result.now c.costs.result.now c.parts.ensures.limits.problem c.pairs.ensures c.costs.ensures)

pub returns : goal.returns
returns c =
    let f = c.q.ensures.bounds in
    let pe = c.p.ensures.value in
    let qe = c.q-2.ensures.value in
    let charges = c.args.charges.now in
    let P : List (ℕ × ℕ) → Type 0 = λ l. IsTaken (λ need. need.1) l charges (length l) c.write_scaled.new.sums c.take_charges.new.on_parts in
    let Q : List (ℕ × ℕ) → Type 0 = λ l. IsTaken (λ need. need.0) l charges (length l) c.write_scaled-2.new.sums c.take_charges.new.by_products in
    let wide = c.write_scaled.ensures.full in
    let wide' = c.write_scaled-2.ensures.full in
    slacks_are c.args.catalogue.now c.args.price.now charges c.write_scaled.new.sums c.take_charges.new.on_parts c.write_scaled-2.new.sums
    c.take_charges.new.by_products c.costs.result.now c.gains.result.now _ _
    (comes_back c.p.result (omega (arith, ints, f.p_low, f.p_high, pe)) ∙ pe) (comes_back c.q-2.result (omega (arith, ints, f.parameter, f.q_high, qe)) ∙ qe)
    c.costs.ensures c.gains.ensures c.requires.charges (omega (arith, wide, c.requires.parts)) (omega (arith, wide', c.requires.products))
    c.write_scaled.ensures.scaled c.write_scaled-2.ensures.scaled (subst P c.pairs.ensures c.take_charges.ensures.parts)
    (subst Q c.pairs.ensures c.take_charges.ensures.products)
