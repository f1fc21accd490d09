use Rattle.std.specs.Prelude.{◌<◌}
use Rattle.pf_tests.proofs.engines.agrees_for.Given as goal

abbrev pub invariant-arcs : goal.invariant-arcs
invariant-arcs l = l.x < 2147483647
