use Rattle.std.proofs.Common.{true}
use Rattle.pf_select.proofs.Gains.{sum_more, sum_small}
use Rattle.pf_select.proofs.network.whole_gain.Goals as goal

pub products-preserved : goal.products-preserved
products-preserved c = record {
  sum = sum_more (λ j. true) c.args.gains.now c.products.j c.products.sum c.from-sum.result c.products-test.true c.products.invariant.sum c.from-sum.ensures;
  small = sum_small true c.products.j c.products.sum c.from-sum.result _ c.products.invariant.small c.from-sum.ensures (c.requires.small c.products.j c.products-test.true);
}
