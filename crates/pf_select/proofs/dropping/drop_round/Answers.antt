use Rattle.std.proofs.Common.{◌≡◌, ◌∙◌, ◌<◌, length, arith, ap, to_z, of_z}
use Rattle.std.proofs.lemmas.Int.{ints}
use Rattle.pf_model.specs.Cut.{at_arc}
use Rattle.pf_select.proofs.DropLemmas.{dropped_at, round_more, round_all, either_first, either_second}
use Rattle.pf_select.proofs.dropping.drop_round.Goals as goal
use Rattle.pf_select.proofs.dropping.drop_round.Goals.{then-changed, else-changed}

pub needs-preserved : goal.needs-preserved
needs-preserved c =
    let p = c.args.catalogue.now in
    let low : c.needs.k < length p.needs = omega (arith, ap length c.pairs-needs.ensures, c.needs-test.true) in
    let there : c.needs.k < length c.args.charges.now = omega (arith, low, c.requires.charges) in
    let least = c.requires.sizes.low c.needs.k there in
    let most = c.requires.sizes.high c.needs.k there in
    let e : to_z mir.Syntax.w128 (of_z mir.Syntax.w128 (at_arc c.args.charges.now c.needs.k)) ≡ at_arc c.args.charges.now c.needs.k = omega (arith, ints, least, most) in
    round_more p c.args.charges.now c.args.parts.now c.needs.parts c.drop_need-dropped.new.parts c.args.products.now c.needs.products c.drop_need-dropped.new.products
    c.needs.k c.needs.changed c.drop_need-dropped.result c.if-changed.changed low c.needs.invariant
    (dropped_at p c.pairs-needs.result.now c.needs.k _ (at_arc c.args.charges.now c.needs.k) _ _ _ _ _ c.pairs-needs.ensures e c.drop_need-dropped.ensures)
    (elim c.if-changed.branch [
      | then-changed w ↦ either_first _ _ _ w.if-changed.true (w.changed-is ∙ w.if-changed.true)
      | else-changed w ↦ either_second _ _ _ w.if-changed.false w.changed-is
    ])

pub returns : goal.returns
returns c =
    round_all c.args.catalogue.now _ _ _ _ _ c.needs.k _ (omega (arith, ap length c.pairs-needs.ensures, c.needs-test.false)) c.needs.invariant
