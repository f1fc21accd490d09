use Rattle.std.proofs.Common.{arith}
use Rattle.std.specs.Prelude.{◌<ℤ◌, pos}
use Rattle.std.proofs.lemmas.Int.{ints}
use Rattle.pf_select.proofs.DropLemmas.{dropped_by_part, dropped_by_product}
use Rattle.pf_select.proofs.dropping.drop_need.Goals as goal

pub returns-then-not-products-product : goal.returns-then-not-products-product
returns-then-not-products-product c =
    dropped_by_part _ _ _ _ _ c.requires.product c.if-parts-part.true c.if-not-products-product.true

pub returns-then-not-parts-part : goal.returns-then-not-parts-part
returns-then-not-parts-part c =
    let range = c.ranges.charge in
    let told = c.if-charge-gt0.true in
    let more : pos 0 <ℤ c.args.charge = omega (arith, ints, range, told) in
    dropped_by_product _ _ _ _ _ c.requires.part more c.if-products-product.true c.if-not-parts-part.true
