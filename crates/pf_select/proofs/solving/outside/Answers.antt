use Rattle.std.proofs.Common.{refl, arith}
use Rattle.pf_select.proofs.Solved.{outside_more}
use Rattle.pf_select.proofs.solving.outside.Goals as goal

pub parts-preserved : goal.parts-preserved
parts-preserved c =
    let count = c.parts-count.ensures.value in
    outside_more c.args.cut.now c.parts.i _ _ _ (omega (arith, c.parts-test.true, count, c.requires)) c.parts.invariant c.in_ok-push.ensures.items refl
