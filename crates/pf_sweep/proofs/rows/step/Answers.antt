use Rattle.std.proofs.Common.{◌≡◌, arith, to_z, of_z}
use Rattle.std.specs.Prelude.{◌-ℤ◌}
use Rattle.std.proofs.lemmas.Int.{ints}
use Rattle.pf_rat.proofs.Products.{comes_back}
use Rattle.pf_sweep.proofs.rows.step.Goals as goal
use mir.Syntax.{w128}

pub returns-clause-value : goal.returns-clause-value
returns-clause-value c =
    let first = c.requires.low in
    let second = c.requires.high in
    let low = comes_back c.args.low (omega (arith, first)) in
    let high = comes_back c.args.high (omega (arith, second)) in
    let gap : to_z w128 (of_z w128 (c.args.high -ℤ c.args.low)) ≡ c.args.high -ℤ c.args.low = omega (arith, ints, first, second) in
    let a = rw low at c.times.ensures.value in
    let b = rw (high, low, gap) at c.times-2.ensures.value in
    let s = c.times.ensures.size in
    let t = c.times-2.ensures.size in
    omega (arith, ints, a, b, s, t)
