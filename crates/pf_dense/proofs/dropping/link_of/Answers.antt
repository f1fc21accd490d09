use Rattle.std.proofs.Common.{◌≡◌, ap, ◌∙◌}
use Rattle.std.proofs.lemmas.Int.{ints}
use Rattle.std.proofs.Common.{arith}
use Rattle.pf_model.specs.Cut.{at_arc}
use Rattle.pf_dense.specs.Certificate.{whole_charge}
use Rattle.pf_dense.proofs.ChargingLemmas.{edge_shared, difference_fits}
use Rattle.pf_dense.proofs.DropLemmas.{link_made}
use Rattle.pf_dense.proofs.dropping.link_of.Goals as goal

pub overflow_sub-rest : goal.overflow_sub-rest
overflow_sub-rest c =
    let g = c.args.graph.now in
    let low = c.requires.there in
    let told : c.whole_charge.result ≡ whole_charge c.args.at.now (at_arc g.weights c.args.i) =
    c.whole_charge.ensures.value ∙ ap (whole_charge c.args.at.now) c.edge-first.ensures.weight in
    let l = c.requires.charges.low c.args.i low in
    let h = c.requires.charges.high c.args.i low in
    difference_fits (at_arc c.args.charges.now c.args.i) c.whole_charge.result l (omega (arith, ints, h, told)) c.whole_charge.ensures.high

pub returns : goal.returns
returns c =
    let g = c.args.graph.now in
    let limits = c.vertices.ensures.limits in
    let s = edge_shared g c.args.at.now c.args.charges.now c.args.i _ c.whole_charge.result limits.graph c.requires.charges c.requires.there
    c.edge-first.ensures.weight c.whole_charge.ensures.value c.whole_charge.ensures.high in
    link_made g c.args.at.now c.args.charges.now c.args.i _ _ _ _ c.edge-first.ensures.first c.edge-first.ensures.second s.first s.second
