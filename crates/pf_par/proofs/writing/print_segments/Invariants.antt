use Rattle.std.proofs.Common.{◌+◌, drop}
use Rattle.pf_par.specs.Answers.{segments_text}
use Rattle.pf_io.proofs.PrintedLemmas.{HasPrinted}
use Rattle.pf_par.proofs.writing.print_segments.Given as goal

abbrev pub invariant-segments : goal.invariant-segments
invariant-segments g l = HasPrinted l.fn.out l.out
    (segments_text l.net 1 l.curve.cuts (drop 1 l.curve.points) (drop 1 l.curve.flows))
    (segments_text l.net (l.i + 1) (drop l.i l.curve.cuts) (drop (l.i + 1) l.curve.points) (drop (l.i + 1) l.curve.flows))
