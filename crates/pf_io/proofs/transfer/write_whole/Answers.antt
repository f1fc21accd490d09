use Rattle.std.proofs.Common.{rules}
use Rattle.pf_io.proofs.ToldLemmas.{took_more}
use Rattle.pf_io.proofs.transfer.write_whole.Goals as goal

pub loop-at-preserved : goal.loop-at-preserved
loop-at-preserved g c = record {
  took = took_more (g.K.Sink.taken c.args.sink.now) (g.K.Sink.taken c.loop-at.sink) (g.K.Sink.taken c.write.new.self) c.args.piece.now c.loop-at.at c.in_ok-at.field-0 c.loop-at.invariant.took c.in_ok-at.ensures.takes;
  within = search rules;
  flushed = search rules;
  later = search rules;
}
