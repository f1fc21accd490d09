use Rattle.std.proofs.Common.{◌<◌, length, get_or, arith, ap, ◌∙◌}
use Rattle.pf_select.specs.Reduction.{need_arc}
use Rattle.pf_select.proofs.ArcLemmas.{pushed_need}
use Rattle.pf_select.proofs.network.push_needs.Goals as goal

pub needs-preserved : goal.needs-preserved
needs-preserved c =
    let p = c.args.catalogue.now in
    let low : c.needs.k < length p.needs = omega (arith, ap length c.pairs-needs.ensures, c.needs-test.true) in
    pushed_need (length p.costs) p.needs c.needs.k c.args.arcs.now.items _ _ c.need_arc.result low c.needs.invariant c.in_ok-push.ensures.items
    (c.need_arc.ensures ∙ ap (λ n. need_arc n (get_or c.pairs-needs.result.now c.needs.k (0, 0))) c.parts-parts.ensures.value
    ∙ ap (λ l. need_arc (length p.costs) (get_or l c.needs.k (0, 0))) c.pairs-needs.ensures)
