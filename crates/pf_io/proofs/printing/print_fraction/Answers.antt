use Rattle.std.proofs.Common.{arith}
use Rattle.std.proofs.lemmas.Int.{ints}
use Rattle.pf_rat.proofs.Products.{comes_back}
use Rattle.pf_io.proofs.printing.print_fraction.Goals as goal

pub returns : goal.returns
returns g c =
    let b = c.p.ensures.bounds in
    rw (
      comes_back c.p.result (omega (arith, ints, c.p.ensures.value, b.p_low, b.p_high)),
      comes_back c.q.result (omega (arith, ints, c.q.ensures.value, b.parameter, b.q_high)),
      c.p.ensures.value,
      c.q.ensures.value,
    ) at c.print_numbers.ensures
