use Rattle.pf_share.proofs.Solved.{join_more}
use Rattle.pf_share.proofs.solving.joins_of.Goals as goal

pub nodes-preserved : goal.nodes-preserved
nodes-preserved c = join_more c.args.curve.now.cuts _ _ c.nodes.v c.join_of.result c.nodes.invariant c.in_ok-push.ensures.items c.join_of.ensures
