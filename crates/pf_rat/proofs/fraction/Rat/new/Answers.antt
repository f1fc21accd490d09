use Rattle.std.proofs.Common.{arith}
use Rattle.std.proofs.lemmas.Int.{ints}
use Rattle.pf_model.specs.Fraction.{Fraction}
use Rattle.pf_rat.proofs.Divided.{divisor_of_values, divided_is}
use Rattle.pf_rat.proofs.fraction.Rat.new.Goals as goal

pub quotient-requires-clause-low : goal.quotient-requires-clause-low
quotient-requires-clause-low c =
    let x : Fraction = record { p = c.args.p; q = c.args.q } in
    let d = divisor_of_values x _ _ _ c.requires c.unsigned_abs.ensures.value c.unsigned_abs-2.ensures.value c.greatest_divisor-divisor.ensures in
    d.low

pub quotient-requires-2-clause-low : goal.quotient-requires-2-clause-low
quotient-requires-2-clause-low c =
    let x : Fraction = record { p = c.args.p; q = c.args.q } in
    let d = divisor_of_values x _ _ _ c.requires c.unsigned_abs.ensures.value c.unsigned_abs-2.ensures.value c.greatest_divisor-divisor.ensures in
    d.low

pub quotient-requires-clause-high : goal.quotient-requires-clause-high
quotient-requires-clause-high c =
    let x : Fraction = record { p = c.args.p; q = c.args.q } in
    let d = divisor_of_values x _ _ _ c.requires c.unsigned_abs.ensures.value c.unsigned_abs-2.ensures.value c.greatest_divisor-divisor.ensures in
    omega (arith, ints, d.high, c.requires.parameter, c.requires.q_high)

pub quotient-requires-2-clause-high : goal.quotient-requires-2-clause-high
quotient-requires-2-clause-high c =
    let x : Fraction = record { p = c.args.p; q = c.args.q } in
    let d = divisor_of_values x _ _ _ c.requires c.unsigned_abs.ensures.value c.unsigned_abs-2.ensures.value c.greatest_divisor-divisor.ensures in
    omega (arith, ints, d.high, c.requires.parameter, c.requires.q_high)

pub invariant_of-result : goal.invariant_of-result
invariant_of-result c =
    let x : Fraction = record { p = c.args.p; q = c.args.q } in
    let d = divisor_of_values x _ _ _ c.requires c.unsigned_abs.ensures.value c.unsigned_abs-2.ensures.value c.greatest_divisor-divisor.ensures in
    let r = divided_is x c.greatest_divisor-divisor.result c.requires d in
    rw (c.quotient.ensures, c.quotient-2.ensures, r.p_back, r.q_back) (r.bounds, r.lowest)

pub returns-clause-value : goal.returns-clause-value
returns-clause-value c =
    let x : Fraction = record { p = c.args.p; q = c.args.q } in
    let d = divisor_of_values x _ _ _ c.requires c.unsigned_abs.ensures.value c.unsigned_abs-2.ensures.value c.greatest_divisor-divisor.ensures in
    let r = divided_is x c.greatest_divisor-divisor.result c.requires d in
    rw (c.quotient.ensures, c.quotient-2.ensures, r.p_back, r.q_back) r.value

pub returns-clause-equal : goal.returns-clause-equal
returns-clause-equal c =
    let x : Fraction = record { p = c.args.p; q = c.args.q } in
    let d = divisor_of_values x _ _ _ c.requires c.unsigned_abs.ensures.value c.unsigned_abs-2.ensures.value c.greatest_divisor-divisor.ensures in
    let r = divided_is x c.greatest_divisor-divisor.result c.requires d in
    rw (c.quotient.ensures, c.quotient-2.ensures, r.p_back, r.q_back) r.equal

pub returns-clause-lowest : goal.returns-clause-lowest
returns-clause-lowest c =
    let x : Fraction = record { p = c.args.p; q = c.args.q } in
    let d = divisor_of_values x _ _ _ c.requires c.unsigned_abs.ensures.value c.unsigned_abs-2.ensures.value c.greatest_divisor-divisor.ensures in
    let r = divided_is x c.greatest_divisor-divisor.result c.requires d in
    rw (c.quotient.ensures, c.quotient-2.ensures, r.p_back, r.q_back) r.lowest

pub returns-clause-bounds : goal.returns-clause-bounds
returns-clause-bounds c =
    let x : Fraction = record { p = c.args.p; q = c.args.q } in
    let d = divisor_of_values x _ _ _ c.requires c.unsigned_abs.ensures.value c.unsigned_abs-2.ensures.value c.greatest_divisor-divisor.ensures in
    let r = divided_is x c.greatest_divisor-divisor.result c.requires d in
    rw (c.quotient.ensures, c.quotient-2.ensures, r.p_back, r.q_back) r.bounds
