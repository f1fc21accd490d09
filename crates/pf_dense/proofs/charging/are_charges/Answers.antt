use Rattle.std.proofs.Common.{◌≡◌, arith, ap, below_more, ◌∙◌}
use Rattle.std.proofs.lemmas.Int.{ints}
use Rattle.pf_model.specs.Cut.{at_arc}
use Rattle.pf_dense.specs.Certificate.{whole_charge}
use Rattle.pf_dense.proofs.charging.are_charges.Goals as goal

pub edges-preserved : goal.edges-preserved
edges-preserved c =
    let told : c.whole_charge.result ≡ whole_charge c.args.at.now (at_arc c.args.graph.now.weights c.edges.i) =
    c.whole_charge.ensures.value ∙ ap (whole_charge c.args.at.now) c.edge-weight.ensures.weight in
    let l = c.whole_charge.ensures.low in
    let h = c.whole_charge.ensures.high in
    let first = c.if-charges-i-lt0.false in
    let second = c.if-whole_charge-charges.false in
    record {
      low = below_more _ _ c.edges.invariant.low (omega (arith, ints, first));
      high = below_more _ _ c.edges.invariant.high (omega (arith, ints, first, second, told, l, h));
    }
