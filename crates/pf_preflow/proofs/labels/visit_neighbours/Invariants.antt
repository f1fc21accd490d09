use Rattle.std.proofs.Common.{◌≡◌, not}
use Rattle.pf_preflow.specs.Raising.{HasVisited}
use Rattle.pf_preflow.proofs.Scan.{arcs_of}
use Rattle.pf_preflow.proofs.labels.visit_neighbours.Given as goal

abbrev pub invariant-arcs : goal.invariant-arcs
invariant-arcs l = record {
  visited : HasVisited l.net.frame.now.nodes l.distances l.order l.put;
  items : l.i-items ≡ arcs_of l.net.frame.now l.w (not l.back);
}
