use Rattle.std.proofs.Common.{arith}
use Rattle.pf_share.proofs.Solved.{pushed_flow, all_flows}
use Rattle.pf_share.proofs.network.push_flows.Goals as goal

pub arcs-preserved : goal.arcs-preserved
arcs-preserved c =
    let many = c.arcs-count.ensures.value in
    pushed_flow c.args.sharing.now c.arcs.i _ _ c.flow_arc.result c.nodes-count.ensures.limits.problem.capacities_full (omega (arith, c.arcs-test.true, many))
    c.arcs.invariant c.in_ok-push.ensures.items c.flow_arc.ensures

pub returns : goal.returns
returns c =
    let many = c.arcs-count.ensures.value in
    all_flows c.args.sharing.now c.arcs.i _ c.nodes-count.ensures.limits.problem.capacities_full (omega (arith, c.arcs-test.false, many)) c.arcs.invariant
