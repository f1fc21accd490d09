use Rattle.std.proofs.Common.{◌^◌, arith}
use Rattle.std.specs.Prelude.{◌*ℤ◌}
use Rattle.std.proofs.lemmas.Int.{ints}
use Rattle.pf_rat.proofs.Products.{product_abs, comes_back}
use Rattle.pf_sweep.proofs.Units.{some_pair}
use Rattle.pf_sweep.proofs.rows.common.Goals as goal

pub returns-clause-low : goal.returns-clause-low
returns-clause-low c =
    let x = c.q.ensures.bounds in
    let y = c.q-2.ensures.bounds in
    let e = c.q.ensures.value in
    let f = c.q-2.ensures.value in
    let size = product_abs c.q.result c.q-2.result (2 ^ 46) (2 ^ 46) (omega (arith, ints, e, x.parameter, x.q_high)) (omega (arith, ints, f, y.parameter, y.q_high)) in
    let first = comes_back c.q.result (omega (arith, ints, e, x.parameter, x.q_high)) in
    let second = comes_back c.q-2.result (omega (arith, ints, f, y.parameter, y.q_high)) in
    let both = comes_back (c.q.result *ℤ c.q-2.result) (omega (arith, size)) in
    rw (first, second, both) (some_pair c.q.result c.q-2.result (omega (arith, ints, e, x.parameter)) (omega (arith, ints, f, y.parameter)))

pub returns-clause-high : goal.returns-clause-high
returns-clause-high c =
    let x = c.q.ensures.bounds in
    let y = c.q-2.ensures.bounds in
    let e = c.q.ensures.value in
    let f = c.q-2.ensures.value in
    let size = product_abs c.q.result c.q-2.result (2 ^ 46) (2 ^ 46) (omega (arith, ints, e, x.parameter, x.q_high)) (omega (arith, ints, f, y.parameter, y.q_high)) in
    let first = comes_back c.q.result (omega (arith, ints, e, x.parameter, x.q_high)) in
    let second = comes_back c.q-2.result (omega (arith, ints, f, y.parameter, y.q_high)) in
    let both = comes_back (c.q.result *ℤ c.q-2.result) (omega (arith, size)) in
    rw (first, second, both) (omega (arith, ints, size))
