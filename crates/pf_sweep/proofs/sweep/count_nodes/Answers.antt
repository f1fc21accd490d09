use Rattle.std.proofs.Common.{arith, ◌∙◌}
use Rattle.pf_sweep.proofs.Keeping.{size_next, size_most, size_whole}
use Rattle.pf_sweep.proofs.sweep.count_nodes.Goals as goal

pub count_node-count-requires : goal.count_node-count-requires
count_node-count-requires c =
    let most = size_most c.args.side.now c.nodes.v in
    let is = c.nodes.invariant in
    let few = c.requires in
    omega (arith, most, is, few)

pub nodes-preserved : goal.nodes-preserved
nodes-preserved c =
    let more = size_next c.args.side.now c.nodes.v (omega arith) in
    let is = c.nodes.invariant in
    let e = c.count_node-count.ensures in
    omega (arith, more, is, e)

pub returns : goal.returns
returns c = c.nodes.invariant ∙ size_whole c.args.side.now c.nodes.v (omega arith)
