use Rattle.std.proofs.Common.{◌≡◌, arith}
use Rattle.pf_select.specs.Text.{select}
use Rattle.pf_select.proofs.reading.SelectKindProblemKind.take.Goals as goal

pub returns-in-1-clause-obeys : goal.returns-in-1-clause-obeys
unfolding select
returns-in-1-clause-obeys c = rw c.in-1.is c.product_line.ensures.obeys

pub returns-in_default-clause-obeys : goal.returns-in_default-clause-obeys
unfolding select
returns-in_default-clause-obeys c =
    let there = c.requires.there in
    let one : c.args.form ≡ 2 = omega (arith, there) in
    rw one c.need_line.ensures.obeys
