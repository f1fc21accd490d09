use Rattle.std.proofs.Common.{◌≡◌, ◌≤◌, length}
use Rattle.pf_curve.specs.Flows.{AreFilled}
use Rattle.pf_curve.proofs.function.flows_at.Given as goal

abbrev pub invariant-points : goal.invariant-points
invariant-points l = record {
  same : l.finder ≡ l.fn.finder;
  most : l.i ≤ length l.points;
  filled : AreFilled l.fn.finder l.points l.i l.rows;
}
