use Rattle.std.proofs.Common.{arith}
use Rattle.std.proofs.lemmas.Int.{ints}
use Rattle.pf_share.proofs.Solved.{group_more}
use Rattle.pf_share.proofs.solving.groups_of.Goals as goal

pub nodes-preserved : goal.nodes-preserved
nodes-preserved c =
    let range = c.group_of.type_inv in
    group_more c.args.joins.now c.args.first c.args.cuts c.nodes.groups c.push.new.self c.nodes.v c.group_of.result _ c.nodes.invariant c.group_of.ensures
    (omega (arith, ints, range)) c.in_ok-push.ensures.added
