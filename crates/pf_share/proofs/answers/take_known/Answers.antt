use Rattle.std.proofs.Common.{◌≡◌, ◌++◌, ◌∷◌, ap, ◌∙◌, arith}
use Rattle.std.specs.Fmt.{signed_decimal}
use Rattle.std.specs.Int.{w128}
use Rattle.std.proofs.lemmas.Int.{ints, to_z-of_z}
use Rattle.pf_share.proofs.answers.take_known.Goals as goal

pub returns-in_err-take_number-clause-found : goal.returns-in_err-take_number-clause-found
returns-in_err-take_number-clause-found c = λ rest stops there.
    let found = rw (to_z-of_z w128 c.args.number c.ranges.number) at c.in_err-take_number.ensures.found in
    absurd (found c.args.number rest (omega (arith, ints)) (omega (arith, ints)) stops there)

pub returns-clause-taken : goal.returns-clause-taken
returns-clause-taken c =
    let range = rw (to_z-of_z w128 c.args.number c.ranges.number) at c.in_ok-take_number.ensures.range in
    let low = range.0 in
    let high = range.1 in
    let same : c.in_ok-take_number.field-0 ≡ c.args.number = omega (arith, ints, low, high) in
    c.in_ok-take_number.ensures.taken ∙ ap (λ n. (32 ∷ signed_decimal n) ++ c.take_number.new.text) same

pub returns-clause-found : goal.returns-clause-found
returns-clause-found c = λ rest stops there.
    let found = rw (to_z-of_z w128 c.args.number c.ranges.number) at c.in_ok-take_number.ensures.found in
    (found c.args.number rest (omega (arith, ints)) (omega (arith, ints)) stops there).1
