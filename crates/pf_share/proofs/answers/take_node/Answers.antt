use Rattle.std.proofs.Common.{arith}
use Rattle.pf_share.proofs.answers.take_node.Goals as goal

pub overflow_add-v : goal.overflow_add-v
overflow_add-v c =
    let few = c.nodes.ensures.limits.few_nodes in
    let low = c.requires.node in
    omega (arith, few, low)
