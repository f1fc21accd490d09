use Rattle.std.proofs.Common.{◌≡◌, take}
use Rattle.pf_model.specs.Cut.{size}
use Rattle.pf_sweep.proofs.sweep.count_nodes.Given as goal

abbrev pub invariant-nodes : goal.invariant-nodes
invariant-nodes l = l.count ≡ size (take l.v l.side)
