use Rattle.std.proofs.Common.{◌∙◌}
use Rattle.pf_model.specs.Cut.{has}
use Rattle.pf_select.proofs.Gains.{sum_more, sum_small}
use Rattle.pf_select.proofs.worth.sum_marked.Goals as goal

pub numbers-preserved : goal.numbers-preserved
numbers-preserved c = record {
  sum = sum_more (has c.args.marks.now) c.args.numbers.now c.numbers.i c.numbers.sum c.from-sum.result c.numbers-test.true c.numbers.invariant.sum
      (c.from-sum.ensures ∙ c.pick.ensures);
  small = sum_small (has c.args.marks.now c.numbers.i) c.numbers.i c.numbers.sum c.from-sum.result _ c.numbers.invariant.small
      (c.from-sum.ensures ∙ c.pick.ensures) (c.requires.small c.numbers.i c.numbers-test.true);
}
