use Rattle.std.proofs.Common.{◌≤◌}
use Rattle.pf_preflow.proofs.Scan.{IsBestAt, NoneLowerAmong}
use Rattle.pf_preflow.proofs.residual.lowest_in.Given as goal

abbrev pub invariant-arcs : goal.invariant-arcs
invariant-arcs l = record {
  most : l.best.label ≤ l.fn.first.label;
  best : IsBestAt l.net.frame.now l.net.caps.now l.flow l.labels l.v l.back l.arcs l.fn.first.label l.best.label l.best.place;
  seen : NoneLowerAmong l.net.frame.now l.net.caps.now l.flow l.labels l.v l.back l.best.label l.arcs l.k;
}
