use Rattle.std.proofs.Common.{◌<◌, length, get_or, refl, arith}
use Rattle.std.proofs.lemmas.Int.{ints}
use Rattle.pf_select.proofs.Slacks.{taken_small, taken_more}
use Rattle.pf_select.proofs.dropping.take_charges.Goals as goal

pub lower-requires-clause-low : goal.lower-requires-clause-low
lower-requires-clause-low c =
    (taken_small (λ need. need.0) c.args.needs.now c.args.charges.now c.args.by_products.now c.needs.by_products c.needs.k (get_or c.args.needs.now c.needs.k (0, 0)).0
    c.needs.invariant.products c.requires.products c.requires.sizes c.requires.charges c.requires.few c.needs-test.true refl).low

pub lower-requires-clause-high : goal.lower-requires-clause-high
lower-requires-clause-high c =
    (taken_small (λ need. need.0) c.args.needs.now c.args.charges.now c.args.by_products.now c.needs.by_products c.needs.k (get_or c.args.needs.now c.needs.k (0, 0)).0
    c.needs.invariant.products c.requires.products c.requires.sizes c.requires.charges c.requires.few c.needs-test.true refl).high

pub lower-requires-in-needs-clause-low : goal.lower-requires-in-needs-clause-low
lower-requires-in-needs-clause-low c =
    (taken_small (λ need. need.1) c.args.needs.now c.args.charges.now c.args.on_parts.now c.needs.on_parts c.needs.k (get_or c.args.needs.now c.needs.k (0, 0)).1
    c.needs.invariant.parts c.requires.parts c.requires.sizes c.requires.charges c.requires.few c.needs-test.true refl).low

pub lower-requires-in-needs-clause-high : goal.lower-requires-in-needs-clause-high
lower-requires-in-needs-clause-high c =
    (taken_small (λ need. need.1) c.args.needs.now c.args.charges.now c.args.on_parts.now c.needs.on_parts c.needs.k (get_or c.args.needs.now c.needs.k (0, 0)).1
    c.needs.invariant.parts c.requires.parts c.requires.sizes c.requires.charges c.requires.few c.needs-test.true refl).high

pub needs-preserved : goal.needs-preserved
needs-preserved c =
    let there : c.needs.k < length c.args.charges.now = omega (arith, c.requires.charges, c.needs-test.true) in
    let low = c.requires.sizes.low c.needs.k there in
    let high = c.requires.sizes.high c.needs.k there in
    record {
      parts = taken_more (λ need. need.1) c.args.needs.now c.args.charges.now c.args.on_parts.now c.needs.on_parts c.lower-in-needs.new.sums c.needs.k
          (get_or c.args.needs.now c.needs.k (0, 0)).1 _ c.needs.invariant.parts c.requires.charges c.needs-test.true refl
          (c.requires.parts.there c.needs.k c.needs-test.true) c.lower-in-needs.ensures (omega (arith, ints, low, high));
      products = taken_more (λ need. need.0) c.args.needs.now c.args.charges.now c.args.by_products.now c.needs.by_products c.lower.new.sums c.needs.k
          (get_or c.args.needs.now c.needs.k (0, 0)).0 _ c.needs.invariant.products c.requires.charges c.needs-test.true refl
          (c.requires.products.there c.needs.k c.needs-test.true) c.lower.ensures (omega (arith, ints, low, high));
    }
