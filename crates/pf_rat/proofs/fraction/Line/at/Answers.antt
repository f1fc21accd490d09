use Rattle.std.proofs.Common.{arith}
use Rattle.std.proofs.lemmas.Int.{ints}
use Rattle.pf_rat.proofs.Products.{line_value, comes_back}
use Rattle.pf_rat.proofs.fraction.Line.at.Goals as goal

pub overflow_add-result : goal.overflow_add-result
overflow_add-result c =
    let l = c.self.invariant in
    let f = c.at.invariant.0 in
    let b = line_value (record { a = c.self.inside.constant; b = c.self.inside.slope }) (record { p = c.at.inside.numerator; q = c.at.inside.denominator }) l f in
    rw (
      comes_back c.self.inside.constant (omega (arith, ints, l.a_low, l.a_high)),
      comes_back c.at.inside.denominator (omega (arith, ints, f.parameter, f.q_high)),
      comes_back c.self.inside.slope (omega (arith, ints, l.b_low, l.b_high)),
      comes_back c.at.inside.numerator (omega (arith, ints, f.p_low, f.p_high)),
    )
    (omega (arith, ints, b.0, b.1))

pub returns : goal.returns
returns c =
    let l = c.self.invariant in
    let f = c.at.invariant.0 in
    let b = line_value (record { a = c.self.inside.constant; b = c.self.inside.slope }) (record { p = c.at.inside.numerator; q = c.at.inside.denominator }) l f in
    rw (
      ← c.self.view_is,
      ← c.at.view_is,
      comes_back c.self.inside.constant (omega (arith, ints, l.a_low, l.a_high)),
      comes_back c.at.inside.denominator (omega (arith, ints, f.parameter, f.q_high)),
      comes_back c.self.inside.slope (omega (arith, ints, l.b_low, l.b_high)),
      comes_back c.at.inside.numerator (omega (arith, ints, f.p_low, f.p_high)),
    )
    (omega (arith, ints, b.0, b.1))
