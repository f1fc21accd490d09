use Rattle.std.proofs.Common.{arith, not}
use Rattle.pf_preflow.proofs.Scan.{item}
use Rattle.pf_preflow.proofs.labels.visit_neighbours.Goals as goal

pub far_end_of-v-requires : goal.far_end_of-v-requires
far_end_of-v-requires c = let n = item c.args.net.frame.now c.args.w c.arcs.i-index _ (not c.args.back) c.arcs.invariant.items c.arcs-test.true in omega (arith, n.in_range)

pub is_residual-requires-clause-caps : goal.is_residual-requires-clause-caps
is_residual-requires-clause-caps c = let n = item c.args.net.frame.now c.args.w c.arcs.i-index _ (not c.args.back) c.arcs.invariant.items c.arcs-test.true in omega (arith, n.in_range)

pub is_residual-requires-clause-flow : goal.is_residual-requires-clause-flow
is_residual-requires-clause-flow c = let n = item c.args.net.frame.now c.args.w c.arcs.i-index _ (not c.args.back) c.arcs.invariant.items c.arcs-test.true in omega (arith, n.in_range)
