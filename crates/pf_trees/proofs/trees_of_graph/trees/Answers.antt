use Rattle.std.proofs.Common.{◌∙◌}
use Rattle.pf_graph.specs.WeightedGraph.{digraph_of}
use Rattle.pf_trees.proofs.Whole.{blocks_graph}
use Rattle.pf_trees.proofs.trees_of_graph.trees.Goals as goal

pub returns : goal.returns
returns c =
    let few = rw c.in-Blocked.is at c.in_ok-numbers.ensures in
    let of = rw c.deref-in-Blocked.ensures.value at c.in_ok-parts-in-Blocked.ensures in
    blocks_graph (digraph_of c.args.graph.now) c.vertices-n.result c.args.k c.deref.result.now c.in-Blocked.groups.items c.in_ok-parts-in-Blocked.parts
    c.vertices-n.ensures.value (c.deref.ensures.value ∙ c.in_ok-ends.ensures) c.vertices-n.ensures.limits.graph.graph few of
