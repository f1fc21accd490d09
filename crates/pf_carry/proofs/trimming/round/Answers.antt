use Rattle.pf_carry.proofs.Lowering.{lowered_then}
use Rattle.pf_carry.proofs.trimming.round.Goals as goal

pub nodes-preserved : goal.nodes-preserved
nodes-preserved c = record {
  sums = c.relieve_short.ensures.sums;
  lowered = lowered_then c.args.frame.now c.args.s c.args.t c.args.flow.now c.nodes.flow c.relieve_short.new.flow c.nodes.invariant.lowered c.relieve_short.ensures.lowered;
}
