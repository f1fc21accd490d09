use Rattle.std.proofs.Common.{◌≡◌, ◌-◌}
use Rattle.std.specs.Prelude.{pos}
use Rattle.pf_tests.proofs.sweeps.climb.Given as goal

abbrev pub invariant-each : goal.invariant-each
invariant-each g l = record {
  low : l.sweep.net.low ≡ record { p = pos 0; q = pos 1 };
  high : l.sweep.net.high ≡ record { p = pos 8; q = pos 1 };
  unit : l.sweep.unit ≡ pos 8;
  at : l.sweep.at ≡ pos (l.p - 1);
}
