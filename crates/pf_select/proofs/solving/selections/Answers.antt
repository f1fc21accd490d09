use Rattle.pf_select.proofs.Solved.{selection_more}
use Rattle.pf_select.proofs.solving.selections.Goals as goal

pub cuts-preserved : goal.cuts-preserved
cuts-preserved c =
    selection_more c.args.catalogue.now c.args.curve.now.cuts c.cuts.sets _ c.cuts.j c.in_ok-outside.field-0 c.cut.result.now c.cuts.invariant c.cut.ensures
    c.in_ok-outside.ensures c.in_ok-push.ensures.added
