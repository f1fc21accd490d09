use Rattle.std.proofs.Common.{◌≡◌, ℕ, ◌<◌, get_or}
use Rattle.pf_preflow.proofs.RaisedLabels.{IsArcFine}
use Rattle.pf_preflow.proofs.labels.are_valid.Given as goal

abbrev pub invariant-arcs : goal.invariant-arcs
invariant-arcs l = record {
  top : get_or l.labels l.net.source 0 ≡ l.net.frame.now.nodes;
  bottom : get_or l.labels l.net.sink 0 ≡ 0;
  each : (k : ℕ) → k < l.i → IsArcFine l.net.frame.now l.net.caps.now l.flow l.labels k;
}
