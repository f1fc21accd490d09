use Rattle.std.proofs.Common.{arith}
use Rattle.std.specs.Prelude.{◌*ℤ◌}
use Rattle.std.proofs.lemmas.Int.{ints, to_z-of_z}
use Rattle.pf_rat.proofs.Products.{comes_back}
use Rattle.pf_sweep.proofs.Units.{start_found}
use Rattle.pf_sweep.proofs.sweep.start_of.Goals as goal
use mir.Syntax.{w128}

pub overflow_mul-p : goal.overflow_mul-p
overflow_mul-p c =
    let b = c.q-q.ensures.bounds in
    let q_back = comes_back c.q-q.result (omega (arith, ints, c.q-q.ensures.value, b.parameter, b.q_high)) in
    let p_back = comes_back c.p.result (omega (arith, ints, c.p.ensures.value, b.p_low, b.p_high)) in
    let f_back = comes_back c.quotient.result (omega (arith, ints, c.quotient.ensures.low, c.quotient.ensures.high)) in
    let floor = rw (to_z-of_z w128 c.args.unit c.ranges.unit, q_back) at c.quotient.ensures.floor in
    let s = start_found c.args.lo.now c.args.unit c.p.result c.q-q.result c.quotient.result c.p.ensures.value c.q-q.ensures.value c.requires.low c.requires.high
    (omega (arith, ints, c.q-q.ensures.value, b.parameter)) c.requires.near c.requires.whole floor in
    let size = s.size in
    rw (p_back, f_back) (omega (arith, ints, size))

pub returns-clause-equal : goal.returns-clause-equal
returns-clause-equal c =
    let b = c.q-q.ensures.bounds in
    let q_back = comes_back c.q-q.result (omega (arith, ints, c.q-q.ensures.value, b.parameter, b.q_high)) in
    let p_back = comes_back c.p.result (omega (arith, ints, c.p.ensures.value, b.p_low, b.p_high)) in
    let f_back = comes_back c.quotient.result (omega (arith, ints, c.quotient.ensures.low, c.quotient.ensures.high)) in
    let floor = rw (to_z-of_z w128 c.args.unit c.ranges.unit, q_back) at c.quotient.ensures.floor in
    let s = start_found c.args.lo.now c.args.unit c.p.result c.q-q.result c.quotient.result c.p.ensures.value c.q-q.ensures.value c.requires.low c.requires.high
    (omega (arith, ints, c.q-q.ensures.value, b.parameter)) c.requires.near c.requires.whole floor in
    let size = s.size in
    rw (p_back, f_back, comes_back (c.p.result *ℤ c.quotient.result) (omega (arith, size)), to_z-of_z w128 c.args.unit c.ranges.unit) s.equal

pub returns-clause-bounds : goal.returns-clause-bounds
returns-clause-bounds c =
    let b = c.q-q.ensures.bounds in
    let q_back = comes_back c.q-q.result (omega (arith, ints, c.q-q.ensures.value, b.parameter, b.q_high)) in
    let p_back = comes_back c.p.result (omega (arith, ints, c.p.ensures.value, b.p_low, b.p_high)) in
    let f_back = comes_back c.quotient.result (omega (arith, ints, c.quotient.ensures.low, c.quotient.ensures.high)) in
    let floor = rw (to_z-of_z w128 c.args.unit c.ranges.unit, q_back) at c.quotient.ensures.floor in
    let s = start_found c.args.lo.now c.args.unit c.p.result c.q-q.result c.quotient.result c.p.ensures.value c.q-q.ensures.value c.requires.low c.requires.high
    (omega (arith, ints, c.q-q.ensures.value, b.parameter)) c.requires.near c.requires.whole floor in
    let size = s.size in
    rw (p_back, f_back, comes_back (c.p.result *ℤ c.quotient.result) (omega (arith, size)), to_z-of_z w128 c.args.unit c.ranges.unit) s.bounds
