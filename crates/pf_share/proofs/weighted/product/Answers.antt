use Rattle.pf_share.proofs.ShareLowest.{product_kept, product_within}
use Rattle.pf_share.proofs.weighted.product.Goals as goal

pub returns-clause-value : goal.returns-clause-value
returns-clause-value c = product_kept c.args.p c.args.part c.requires.low c.requires.high c.requires.part_low c.requires.part_high

pub returns-clause-low : goal.returns-clause-low
returns-clause-low c =
    rw (product_kept c.args.p c.args.part c.requires.low c.requires.high c.requires.part_low c.requires.part_high)
    (product_within c.args.p c.args.part c.requires.low c.requires.high c.requires.part_low c.requires.part_high).0

pub returns-clause-high : goal.returns-clause-high
returns-clause-high c =
    rw (product_kept c.args.p c.args.part c.requires.low c.requires.high c.requires.part_low c.requires.part_high)
    (product_within c.args.p c.args.part c.requires.low c.requires.high c.requires.part_low c.requires.part_high).1
