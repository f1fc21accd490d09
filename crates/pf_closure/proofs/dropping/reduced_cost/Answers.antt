use Rattle.std.proofs.Common.{◌≡◌, ◌^◌, arith}
use Rattle.std.proofs.lemmas.Int.{ints}
use Rattle.pf_rat.proofs.Products.{comes_back, product_abs}
use Rattle.pf_closure.proofs.dropping.reduced_cost.Goals as goal

pub overflow_sub-result : goal.overflow_sub-result
overflow_sub-result c =
    let f = c.q.ensures.bounds in
    let l = c.requires.cost_low in
    let h = c.requires.cost_high in
    let m = c.requires.weight_low in
    let n = c.requires.weight_high in
    let first : c.from.result ≡ c.args.cost = omega (arith, ints, c.from.ensures, l, h) in
    let second : c.from-2.result ≡ c.args.weight = omega (arith, ints, c.from-2.ensures, m, n) in
    let a = product_abs c.args.at.now.q c.args.cost (2 ^ 46) 1000000 (omega (arith, ints, f.parameter, f.q_high)) (omega (arith, ints, l, h)) in
    let b = product_abs c.args.at.now.p c.args.weight (2 ^ 73) 1000000 (omega (arith, ints, f.p_low, f.p_high)) (omega (arith, ints, m, n)) in
    rw (
      first,
      second,
      c.q.ensures.value,
      c.p.ensures.value,
      comes_back c.args.cost (omega (arith, ints, l, h)),
      comes_back c.args.at.now.q (omega (arith, ints, f.parameter, f.q_high)),
      comes_back c.args.weight (omega (arith, ints, m, n)),
      comes_back c.args.at.now.p (omega (arith, ints, f.p_low, f.p_high)),
    )
    (omega (arith, ints, a, b))

pub returns-clause-value : goal.returns-clause-value
returns-clause-value c =
    let f = c.q.ensures.bounds in
    let l = c.requires.cost_low in
    let h = c.requires.cost_high in
    let m = c.requires.weight_low in
    let n = c.requires.weight_high in
    let first : c.from.result ≡ c.args.cost = omega (arith, ints, c.from.ensures, l, h) in
    let second : c.from-2.result ≡ c.args.weight = omega (arith, ints, c.from-2.ensures, m, n) in
    let a = product_abs c.args.at.now.q c.args.cost (2 ^ 46) 1000000 (omega (arith, ints, f.parameter, f.q_high)) (omega (arith, ints, l, h)) in
    let b = product_abs c.args.at.now.p c.args.weight (2 ^ 73) 1000000 (omega (arith, ints, f.p_low, f.p_high)) (omega (arith, ints, m, n)) in
    rw (
      first,
      second,
      c.q.ensures.value,
      c.p.ensures.value,
      comes_back c.args.cost (omega (arith, ints, l, h)),
      comes_back c.args.at.now.q (omega (arith, ints, f.parameter, f.q_high)),
      comes_back c.args.weight (omega (arith, ints, m, n)),
      comes_back c.args.at.now.p (omega (arith, ints, f.p_low, f.p_high)),
    )
    (omega (arith, ints, a, b))

pub returns-clause-low : goal.returns-clause-low
returns-clause-low c =
    let f = c.q.ensures.bounds in
    let l = c.requires.cost_low in
    let h = c.requires.cost_high in
    let m = c.requires.weight_low in
    let n = c.requires.weight_high in
    let first : c.from.result ≡ c.args.cost = omega (arith, ints, c.from.ensures, l, h) in
    let second : c.from-2.result ≡ c.args.weight = omega (arith, ints, c.from-2.ensures, m, n) in
    let a = product_abs c.args.at.now.q c.args.cost (2 ^ 46) 1000000 (omega (arith, ints, f.parameter, f.q_high)) (omega (arith, ints, l, h)) in
    let b = product_abs c.args.at.now.p c.args.weight (2 ^ 73) 1000000 (omega (arith, ints, f.p_low, f.p_high)) (omega (arith, ints, m, n)) in
    rw (
      first,
      second,
      c.q.ensures.value,
      c.p.ensures.value,
      comes_back c.args.cost (omega (arith, ints, l, h)),
      comes_back c.args.at.now.q (omega (arith, ints, f.parameter, f.q_high)),
      comes_back c.args.weight (omega (arith, ints, m, n)),
      comes_back c.args.at.now.p (omega (arith, ints, f.p_low, f.p_high)),
    )
    (omega (arith, ints, a, b))

pub returns-clause-high : goal.returns-clause-high
returns-clause-high c =
    let f = c.q.ensures.bounds in
    let l = c.requires.cost_low in
    let h = c.requires.cost_high in
    let m = c.requires.weight_low in
    let n = c.requires.weight_high in
    let first : c.from.result ≡ c.args.cost = omega (arith, ints, c.from.ensures, l, h) in
    let second : c.from-2.result ≡ c.args.weight = omega (arith, ints, c.from-2.ensures, m, n) in
    let a = product_abs c.args.at.now.q c.args.cost (2 ^ 46) 1000000 (omega (arith, ints, f.parameter, f.q_high)) (omega (arith, ints, l, h)) in
    let b = product_abs c.args.at.now.p c.args.weight (2 ^ 73) 1000000 (omega (arith, ints, f.p_low, f.p_high)) (omega (arith, ints, m, n)) in
    rw (
      first,
      second,
      c.q.ensures.value,
      c.p.ensures.value,
      comes_back c.args.cost (omega (arith, ints, l, h)),
      comes_back c.args.at.now.q (omega (arith, ints, f.parameter, f.q_high)),
      comes_back c.args.weight (omega (arith, ints, m, n)),
      comes_back c.args.at.now.p (omega (arith, ints, f.p_low, f.p_high)),
    )
    (omega (arith, ints, a, b))
