use Rattle.std.proofs.Common.{◌≡◌}
use Rattle.pf_curve.proofs.function.table_of.Given as goal

abbrev pub invariant-rows : goal.invariant-rows
invariant-rows l = l.table ≡ l.yielded
