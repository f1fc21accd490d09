use Rattle.std.proofs.Common.{◌≡◌, length}
use Rattle.std.specs.Prelude.{nat_abs}
use Rattle.pf_model.specs.Network.{IsInInterval}
use Rattle.pf_dense.specs.Densest.{cost_within}
use Rattle.pf_dense.specs.Reduction.{dense_net}
use Rattle.pf_dense.specs.Newton.{IsNewton}
use Rattle.pf_dense.proofs.newton.settle.Given as goal

abbrev pub invariant-steps : goal.invariant-steps
invariant-steps l = record {
  newton : IsNewton l.graph l.density l.set;
  inside : IsInInterval (dense_net l.graph) l.density;
  network : l.finder ≡ dense_net l.graph;
  nodes : length l.side ≡ (dense_net l.graph).nodes;
  arcs : length l.flow ≡ length (dense_net l.graph).arcs;
}

abbrev pub decreases-steps : goal.decreases-steps
decreases-steps l = nat_abs (cost_within l.graph l.set)
