use Rattle.std.proofs.Common.{refl}
use Rattle.pf_select.proofs.ArcLemmas.{pushed_product}
use Rattle.pf_select.proofs.network.push_products.Goals as goal

pub products-preserved : goal.products-preserved
products-preserved c = pushed_product c.args.sink c.args.parts c.args.gains.now c.products.j _ c.args.arcs.now.items _ _ c.product_arc.result
    c.products-test.true refl c.products.invariant c.in_ok-push.ensures.items c.product_arc.ensures
