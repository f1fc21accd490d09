use Rattle.std.proofs.Common.{arith}
use Rattle.std.proofs.lemmas.Int.{ints}
use Rattle.pf_rat.proofs.Products.{comes_back, line_value}
use Rattle.pf_sweep.specs.Parameters.{of_units}
use Rattle.pf_sweep.proofs.sweep.line_value.Goals as goal

pub overflow_add-result : goal.overflow_add-result
overflow_add-result c =
    let f = c.requires in
    let l = c.a.ensures.bounds in
    let v = line_value c.args.line.now (of_units c.args.at.now.unit c.args.at.now.p) l f in
    rw (
      c.a.ensures.value,
      c.b.ensures.value,
      comes_back c.args.line.now.a (omega (arith, ints, l.a_low, l.a_high)),
      comes_back c.args.at.now.unit (omega (arith, ints, f.parameter, f.q_high)),
      comes_back c.args.line.now.b (omega (arith, ints, l.b_low, l.b_high)),
      comes_back c.args.at.now.p (omega (arith, ints, f.p_low, f.p_high)),
    )
    (omega (arith, ints, v.0, v.1))

pub returns : goal.returns
returns c =
    let f = c.requires in
    let l = c.a.ensures.bounds in
    let v = line_value c.args.line.now (of_units c.args.at.now.unit c.args.at.now.p) l f in
    rw (
      c.a.ensures.value,
      c.b.ensures.value,
      comes_back c.args.line.now.a (omega (arith, ints, l.a_low, l.a_high)),
      comes_back c.args.at.now.unit (omega (arith, ints, f.parameter, f.q_high)),
      comes_back c.args.line.now.b (omega (arith, ints, l.b_low, l.b_high)),
      comes_back c.args.at.now.p (omega (arith, ints, f.p_low, f.p_high)),
    )
    (omega (arith, ints, v.0, v.1))
