use Rattle.std.proofs.Common.{◌≡◌, ◌++◌, take}
use Rattle.pf_share.specs.Reduction.{source_arcs}
use Rattle.pf_share.proofs.network.push_sources.Given as goal

abbrev pub invariant-nodes : goal.invariant-nodes
invariant-nodes l = l.arcs.items ≡ l.fn.arcs.items ++ source_arcs l.sharing.nodes 0 (take l.v l.sharing.weights)
