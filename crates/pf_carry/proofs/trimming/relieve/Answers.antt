use Rattle.std.proofs.Common.{arith}
use Rattle.pf_frame.proofs.Steps.{out_item}
use Rattle.pf_carry.proofs.Lowering.{lowered_then}
use Rattle.pf_carry.proofs.trimming.relieve.Goals as goal

pub give_sink_less-requires-clause-arc : goal.give_sink_less-requires-clause-arc
give_sink_less-requires-clause-arc c = (out_item c.args.frame.now _ c.into_sink.i-index _ c.into_sink.invariant.items (omega arith)).in_range

pub into_sink-preserved : goal.into_sink-preserved
into_sink-preserved c = record {
  sums = c.give_sink_less.ensures.sums;
  lowered = λ s t p q. lowered_then c.args.frame.now s t c.args.flow.now c.into_sink.flow c.give_sink_less.new.flow (c.into_sink.invariant.lowered s t p q) (c.give_sink_less.ensures.lowered s t p q);
  items = c.into_sink.invariant.items;
}

pub give_less-requires-clause-arc : goal.give_less-requires-clause-arc
give_less-requires-clause-arc c = (out_item c.args.frame.now _ c.others.i-index _ c.others.invariant.items (omega arith)).in_range

pub others-preserved : goal.others-preserved
others-preserved c = record {
  sums = c.give_less.ensures.sums;
  lowered = λ s t p q. lowered_then c.args.frame.now s t c.args.flow.now c.others.flow c.give_less.new.flow (c.others.invariant.lowered s t p q) (c.give_less.ensures.lowered s t p q);
  items = c.others.invariant.items;
}
