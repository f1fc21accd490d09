use Rattle.std.proofs.Common.{◌≡◌, arith}
use Rattle.pf_closure.specs.Text.{closure}
use Rattle.pf_closure.proofs.reading.ClosureKindProblemKind.take.Goals as goal

pub returns-in_default-clause-obeys : goal.returns-in_default-clause-obeys
unfolding closure
returns-in_default-clause-obeys c =
    let there = c.requires.there in
    let one : c.args.form ≡ 1 = omega (arith, there) in
    rw one c.need_line.ensures.obeys
