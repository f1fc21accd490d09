use Rattle.std.proofs.Common.{◌+◌, [], ◌∙◌}
use Rattle.pf_text.specs.Kinds.{problem_of_lines}
use Rattle.pf_text.specs.Lines.{lines_from}
use Rattle.pf_par.specs.Text.{par}
use Rattle.pf_gen.specs.Generator.{net_of}
use Rattle.pf_gen.proofs.SummaryLemmas.{drawn_judged, drawn_read, never_refused}
use Rattle.pf_gen.proofs.summary.drawn_net.Goals as goal

pub returns-in-Ok : goal.returns-in-Ok
returns-in-Ok c =
    let drawn = drawn_judged c.args.seed c.args.n c.args.m c.deref.result.now c.requires.low c.requires.high c.requires.arcs (c.deref.ensures.value ∙ c.in_ok-text.ensures) in
    let read = rw c.new-lines.ensures at c.in-Ok.ensures.judged in
    drawn_read (problem_of_lines par (lines_from 1 c.deref.result.now)) _ (record { problem = net_of c.args.seed c.args.n c.args.m; rest = []; line = c.args.m + 5 }) read drawn

pub unreachable-requires : goal.unreachable-requires
unreachable-requires c =
    let drawn = drawn_judged c.args.seed c.args.n c.args.m c.deref.result.now c.requires.low c.requires.high c.requires.arcs (c.deref.ensures.value ∙ c.in_ok-text.ensures) in
    let read = rw (c.in-Err-Text.field-0-is, c.new-lines.ensures) at c.in-Err-Text.ensures.judged in
    never_refused (problem_of_lines par (lines_from 1 c.deref.result.now)) c.in-Err-Text.field-0-0 (record { problem = net_of c.args.seed c.args.n c.args.m; rest = []; line = c.args.m + 5 }) read drawn
