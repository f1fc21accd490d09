use Rattle.std.proofs.Common.{arith}
use Rattle.std.specs.Prelude.{pos}
use Rattle.std.proofs.lemmas.Int.{ints}
use Rattle.pf_lines.proofs.taking.take_index.Goals as goal

pub returns-in_err-take_number-clause-found : goal.returns-in_err-take_number-clause-found
returns-in_err-take_number-clause-found c = λ rest stops e.
    absurd (c.in_err-take_number.ensures.found (pos c.args.index) rest (omega (arith, ints)) (omega (arith, ints)) stops e)
