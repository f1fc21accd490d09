use Rattle.std.proofs.Common.{◌∙◌}
use Rattle.pf_select.proofs.Solved.{slice_is_charges, charges_more}
use Rattle.pf_select.proofs.solving.carried.Goals as goal

pub prices-preserved : goal.prices-preserved
prices-preserved c =
    let p = c.args.catalogue.now in
    charges_more p c.args.curve.now.flows c.prices.charges _ c.prices.j c.from_vec.result c.flow-flow.result.now c.prices.invariant c.flow-flow.ensures
    (c.from_vec.ensures ∙ c.in_ok-row.ensures.items
    ∙ slice_is_charges p c.flow-flow.result.now c.parts-parts.result c.needs-needs.result c.parts-parts.ensures.value c.needs-needs.ensures)
    c.in_ok-push.ensures.added
