use Rattle.pf_share.proofs.Solved.{solved}
use Rattle.pf_share.proofs.solving.fair.Goals as goal

pub returns-clause-best : goal.returns-clause-best
returns-clause-best c =
    (solved c.args.sharing.now c.in_ok-split.split c.with_flow.result c.in_ok-flow.flow c.nodes.ensures.limits c.in_ok-split.ensures.shape
    c.in_ok-flow.ensures.certificate c.in_ok-flow.ensures.sized c.with_flow.ensures).best

pub returns-clause-certificate : goal.returns-clause-certificate
returns-clause-certificate c =
    (solved c.args.sharing.now c.in_ok-split.split c.with_flow.result c.in_ok-flow.flow c.nodes.ensures.limits c.in_ok-split.ensures.shape
    c.in_ok-flow.ensures.certificate c.in_ok-flow.ensures.sized c.with_flow.ensures).certificate

pub returns-clause-shape : goal.returns-clause-shape
returns-clause-shape c =
    (solved c.args.sharing.now c.in_ok-split.split c.with_flow.result c.in_ok-flow.flow c.nodes.ensures.limits c.in_ok-split.ensures.shape
    c.in_ok-flow.ensures.certificate c.in_ok-flow.ensures.sized c.with_flow.ensures).shape
