use Rattle.std.proofs.Common.{◌≡◌, arith}
use Rattle.pf_share.specs.Text.{share}
use Rattle.pf_share.proofs.reading.ShareKindProblemKind.take.Goals as goal

pub returns-in-1-clause-obeys : goal.returns-in-1-clause-obeys
unfolding share
returns-in-1-clause-obeys c = rw c.in-1.is c.weight_line.ensures.obeys

pub returns-in_default-clause-obeys : goal.returns-in_default-clause-obeys
unfolding share
returns-in_default-clause-obeys c =
    let there = c.requires.there in
    let two : c.args.form ≡ 2 = omega (arith, there) in
    rw two c.arc_line.ensures.obeys
