use Rattle.std.proofs.Common.{rules}
use Rattle.pf_io.specs.Told.{IsFrontOf}
use Rattle.pf_io.proofs.PrintingLemmas.{front_trans}
use Rattle.pf_top.proofs.commands.generate.hand_summary.Goals as goal

pub returns-clause-grows : goal.returns-clause-grows
returns-clause-grows g c =
    let start : IsFrontOf (g.O.Sink.taken c.args.out.now) (g.O.Sink.taken c.write_summary.new.out.sink.now) = rw c.new-printer.ensures.same at c.in_ok-write_summary.ensures.grows in
    let all : IsFrontOf (g.O.Sink.taken c.args.out.now) (g.O.Sink.taken c.finish.new.self.0) = front_trans (g.O.Sink.taken c.args.out.now) (g.O.Sink.taken c.write_summary.new.out.sink.now) (g.O.Sink.taken c.finish.new.self.0) start c.finish.ensures.grows in
    (all.0, search rules)
