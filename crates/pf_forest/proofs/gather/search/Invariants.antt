use Rattle.std.proofs.Common.{◌≡◌, ◌-◌, ◌≤◌, length}
use Rattle.pf_model.specs.Digraph.{network_of, arcs_out, arcs_in}
use Rattle.pf_model.proofs.Search.{IsSearch, IsScan}
use Rattle.pf_frame.proofs.Steps.{OpenMarked, ReturnMarked}
use Rattle.pf_forest.proofs.Tree.{IsSweep}
use Rattle.pf_forest.proofs.gather.search.Given as goal

abbrev pub invariant-search : goal.invariant-search
invariant-search l = record {
  search : IsSearch (network_of l.frame l.vector l.root l.root) l.heads l.side l.queue l.taken l.put;
  sweep : IsSweep l.frame l.vector l.heads l.rooms l.root l.skip l.frame.nodes l.side l.via l.rank l.put l.hit;
  queue : length l.queue ≡ l.frame.nodes;
  order : l.taken ≤ l.put;
}

abbrev pub invariant-outs : goal.invariant-outs
invariant-outs l = record {
  scan : IsScan (network_of l.frame l.vector l.root l.root) l.heads l.side l.queue l.taken l.put l.v;
  sweep : IsSweep l.frame l.vector l.heads l.rooms l.root l.skip l.frame.nodes l.side l.via l.rank l.put l.hit;
  queue : length l.queue ≡ l.frame.nodes;
  order : l.taken ≤ l.put;
  items : l.i-items ≡ arcs_out l.frame l.v;
  seen : OpenMarked l.frame l.vector l.heads l.side l.i-items l.i-index;
}

abbrev pub invariant-ins : goal.invariant-ins
invariant-ins l = record {
  scan : IsScan (network_of l.frame l.vector l.root l.root) l.heads l.side l.queue l.taken l.put l.v;
  sweep : IsSweep l.frame l.vector l.heads l.rooms l.root l.skip l.frame.nodes l.side l.via l.rank l.put l.hit;
  queue : length l.queue ≡ l.frame.nodes;
  order : l.taken ≤ l.put;
  items : l.i-items ≡ arcs_in l.frame l.v;
  outs : OpenMarked l.frame l.vector l.heads l.side (arcs_out l.frame l.v) (length (arcs_out l.frame l.v));
  seen : ReturnMarked l.frame l.heads l.side l.i-items l.i-index;
}

abbrev pub decreases-search : goal.decreases-search
decreases-search l = l.frame.nodes - l.taken
