use Rattle.std.proofs.Common.{◌≡◌, arith}
use Rattle.std.specs.Prelude.{pos}
use Rattle.std.proofs.lemmas.Int.{ints}
use Rattle.pf_rat.proofs.Products.{comes_back}
use Rattle.pf_net.proofs.CapacityBounds.{short}
use Rattle.pf_net.proofs.rules.capacity.Goals as goal

pub returns-then-arc-eq0 : goal.returns-then-arc-eq0
returns-then-arc-eq0 c =
    let s = c.requires in
    let f = c.q.ensures.bounds in
    let b = short c.args.arc.now c.args.at.now s f in
    let first : c.from.result ≡ c.args.arc.now.a = omega (arith, ints, c.from.ensures, s.a_low, s.a_high) in
    let second : c.from-2.result ≡ c.args.at.now.q = omega (arith, ints, c.from-2.ensures, c.q.ensures.value, f.parameter, f.q_high) in
    let flat : c.args.arc.now.b ≡ pos 0 = omega (arith, ints, c.if-arc-eq0.true, s.b_low, s.b_high) in
    rw (
      first,
      second,
      flat,
      comes_back c.args.arc.now.a (omega (arith, ints, s.a_low, s.a_high)),
      comes_back c.args.at.now.q (omega (arith, ints, f.parameter, f.q_high)),
    )
    (omega (arith, ints, b.constant))

pub overflow_mul-result : goal.overflow_mul-result
overflow_mul-result c =
    let s = c.requires in
    let f = c.q.ensures.bounds in
    let b = short c.args.arc.now c.args.at.now s f in
    let third : c.from-3.result ≡ c.args.arc.now.b = omega (arith, ints, c.from-3.ensures, s.b_low, s.b_high) in
    rw (
      third,
      c.p.ensures.value,
      comes_back c.args.arc.now.b (omega (arith, ints, s.b_low, s.b_high)),
      comes_back c.args.at.now.p (omega (arith, ints, f.p_low, f.p_high)),
    )
    (omega (arith, ints, b.slope))

pub overflow_add-result : goal.overflow_add-result
overflow_add-result c =
    let s = c.requires in
    let f = c.q.ensures.bounds in
    let b = short c.args.arc.now c.args.at.now s f in
    let first : c.from.result ≡ c.args.arc.now.a = omega (arith, ints, c.from.ensures, s.a_low, s.a_high) in
    let second : c.from-2.result ≡ c.args.at.now.q = omega (arith, ints, c.from-2.ensures, c.q.ensures.value, f.parameter, f.q_high) in
    let third : c.from-3.result ≡ c.args.arc.now.b = omega (arith, ints, c.from-3.ensures, s.b_low, s.b_high) in
    rw (
      first,
      second,
      third,
      c.p.ensures.value,
      comes_back c.args.arc.now.a (omega (arith, ints, s.a_low, s.a_high)),
      comes_back c.args.at.now.q (omega (arith, ints, f.parameter, f.q_high)),
      comes_back c.args.arc.now.b (omega (arith, ints, s.b_low, s.b_high)),
      comes_back c.args.at.now.p (omega (arith, ints, f.p_low, f.p_high)),
    )
    (omega (arith, ints, b.constant, b.slope))

pub returns : goal.returns
returns c =
    let s = c.requires in
    let f = c.q.ensures.bounds in
    let b = short c.args.arc.now c.args.at.now s f in
    let first : c.from.result ≡ c.args.arc.now.a = omega (arith, ints, c.from.ensures, s.a_low, s.a_high) in
    let second : c.from-2.result ≡ c.args.at.now.q = omega (arith, ints, c.from-2.ensures, c.q.ensures.value, f.parameter, f.q_high) in
    let third : c.from-3.result ≡ c.args.arc.now.b = omega (arith, ints, c.from-3.ensures, s.b_low, s.b_high) in
    rw (
      first,
      second,
      third,
      c.p.ensures.value,
      comes_back c.args.arc.now.a (omega (arith, ints, s.a_low, s.a_high)),
      comes_back c.args.at.now.q (omega (arith, ints, f.parameter, f.q_high)),
      comes_back c.args.arc.now.b (omega (arith, ints, s.b_low, s.b_high)),
      comes_back c.args.at.now.p (omega (arith, ints, f.p_low, f.p_high)),
    )
    (omega (arith, ints, b.constant, b.slope))
