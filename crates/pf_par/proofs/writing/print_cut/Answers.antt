use Rattle.std.proofs.Common.{arith}
use Rattle.std.proofs.lemmas.Int.{ints}
use Rattle.pf_rat.proofs.Products.{comes_back}
use Rattle.pf_par.proofs.writing.print_cut.Goals as goal

pub returns : goal.returns
returns g c =
    let f = c.a.ensures.bounds in
    let whole = c.cut_line-line.ensures in
    rw (
      comes_back c.a.result (omega (arith, ints, c.a.ensures.value, f.a_low, f.a_high)),
      comes_back c.b.result (omega (arith, ints, c.b.ensures.value, f.b_low, f.b_high)),
      c.a.ensures.value,
      c.b.ensures.value,
      whole,
    ) at c.print_side_row.ensures
