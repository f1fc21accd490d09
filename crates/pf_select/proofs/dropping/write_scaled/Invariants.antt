use Rattle.std.proofs.Common.{◌≡◌, length}
use Rattle.pf_select.specs.Dropping.{IsScaled}
use Rattle.pf_select.proofs.dropping.write_scaled.Given as goal

abbrev pub invariant-numbers : goal.invariant-numbers
invariant-numbers l = record {
  full : length l.sums ≡ length l.fn.sums;
  scaled : IsScaled l.k l.numbers l.i l.sums;
}
