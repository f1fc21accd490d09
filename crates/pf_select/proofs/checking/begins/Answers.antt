use Rattle.std.proofs.Common.{arith, sym, ◌∙◌}
use Rattle.pf_select.proofs.PriceTests.{selection_full, needed_begins, begins_needed}
use Rattle.pf_select.proofs.checking.begins.Goals as goal

pub returns : goal.returns
returns c =
    let p = c.args.catalogue.now in
    let wide = c.mark_needed.ensures.full in (
      λ told. needed_begins p c.pairs.result.now c.args.answer.now.selections c.mark_needed.new.marks c.pairs.ensures c.mark_needed.ensures.needed
          (sym c.selection.ensures ∙ c.is_same.ensures.0 told),
      λ h. c.is_same.ensures.1 (c.selection.ensures ∙ begins_needed p c.pairs.result.now c.args.answer.now.selections c.mark_needed.new.marks c.pairs.ensures
          c.mark_needed.ensures.needed (selection_full p c.args.answer.now 0 c.requires.shape (omega arith)) (omega (arith, wide, c.requires.marks)) h),
    )
