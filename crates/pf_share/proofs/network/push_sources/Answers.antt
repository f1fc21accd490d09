use Rattle.std.proofs.Common.{arith}
use Rattle.pf_share.proofs.Solved.{pushed_source, all_sources}
use Rattle.pf_share.proofs.network.push_sources.Goals as goal

pub nodes-preserved : goal.nodes-preserved
nodes-preserved c =
    let many = c.nodes-count.ensures.value in
    pushed_source c.args.sharing.now c.nodes.v c.args.arcs.now.items _ _ c.source_arc.result c.nodes-count.ensures.limits.problem.weights_full
    (omega (arith, c.nodes-test.true, many)) c.nodes.invariant c.in_ok-push.ensures.items c.source_arc.ensures

pub returns : goal.returns
returns c =
    let many = c.nodes-count.ensures.value in
    all_sources c.args.sharing.now c.nodes.v c.args.arcs.now.items _ c.nodes-count.ensures.limits.problem.weights_full (omega (arith, c.nodes-test.false, many))
    c.nodes.invariant
