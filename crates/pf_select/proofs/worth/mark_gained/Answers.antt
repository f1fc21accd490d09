use Rattle.std.proofs.Common.{◌∙◌}
use Rattle.pf_select.proofs.Gains.{gained_more, unmarked_length}
use Rattle.pf_select.proofs.worth.mark_gained.Goals as goal

pub needs-preserved : goal.needs-preserved
needs-preserved c = record {
  full = unmarked_length _ _ _ _ c.unmark_product.ensures ∙ c.needs.invariant.full;
  gained = gained_more c.pairs-needs.result.now c.args.set.now c.needs.products c.unmark_product.new.products c.needs.k c.needs.invariant.gained
      c.needs-test.true c.unmark_product.ensures;
}
