use Rattle.std.proofs.Common.{refl, ◌∙◌, below_more}
use Rattle.pf_select.specs.Tests.{CertifiesChange}
use Rattle.pf_select.proofs.PriceTests.{price_here, change_here}
use Rattle.pf_select.proofs.checking.certifies_changes.Goals as goal

pub prices-preserved : goal.prices-preserved
prices-preserved c =
    let p = c.args.catalogue.now in
    let answer = c.args.answer.now in
    let inv = c.prices.invariant in
    let x = price_here answer.prices c.get-prices.result.now c.prices.j c.index-prices-j.result (c.get-prices.ensures ∙ c.prices-2.ensures)
    c.prices-test.true c.index-prices-j.is in
    record {
      on_parts = c.certifies_price.auto.on_parts ∙ inv.on_parts;
      by_products = c.certifies_price.auto.by_products ∙ inv.by_products;
      parts = c.certifies_price.auto.parts ∙ inv.parts;
      products = c.is_equal_worth.auto.products ∙ c.certifies_price.auto.products ∙ inv.products;
      each = below_more (CertifiesChange p answer.prices answer.selections answer.charges) c.prices.j inv.each
          (change_here p answer c.prices.j c.index-prices-j.result c.charges_at-charges.result.now c.selection-before.result.now c.selection-after.result.now
          x c.charges_at-charges.ensures c.selection-before.ensures c.selection-after.ensures (c.if-not-certifies_price.ensures.0 refl)
          (c.if-not-is_equal_worth.ensures.0 refl));
    }
