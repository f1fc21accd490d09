use Rattle.std.proofs.Common.{◌≡◌, length, drop, rules, arith, ◌∙◌}
use Rattle.pf_preflow.specs.State.{pushed_excess}
use Rattle.pf_preflow.proofs.push.push.Goals as goal
use Rattle.pf_model.proofs.Facts.{lent_back}

pub returns-clause-excess : goal.returns-clause-excess
returns-clause-excess c =
    let e : c.move_excess.new.excess ≡ pushed_excess c.args.room.now.excess.items c.args.v c.args.along.to c.args.amount = search rules in
    lent_back c.args.room.now.excess.len c.move_excess.new.excess (drop (length c.move_excess.new.excess) c.args.room.now.excess.items)
    (omega (arith, c.args.room.now.excess.ok.0, c.move_excess.auto.excess, c.as_mut_slice.ensures.len)) ∙ e
