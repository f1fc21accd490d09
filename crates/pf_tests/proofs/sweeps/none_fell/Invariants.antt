use Rattle.std.proofs.Common.{◌≤◌, length}
use Rattle.pf_tests.proofs.sweeps.none_fell.Given as goal

abbrev pub invariant-nodes : goal.invariant-nodes
invariant-nodes l = l.v ≤ length l.before
