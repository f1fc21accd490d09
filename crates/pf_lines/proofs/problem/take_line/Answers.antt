use Rattle.pf_lines.specs.Gathering.{state_of}
use Rattle.pf_lines.proofs.MatchingLemmas.{step_refused, step_judged, found_is}
use Rattle.pf_lines.proofs.problem.take_line.Goals as goal

pub returns-in-Err-clause-judged : goal.returns-in-Err-clause-judged
returns-in-Err-clause-judged g c =
    step_refused (g.K.ProblemKind.kind c.args.kind.now) _ c.args.line.now c.args.forms.now c.in-Err.bad c.number.result c.refused.result c.requires.forms c.in-Err.ensures c.number.ensures c.refused.ensures

pub take_found-requires-clause-there : goal.take_found-requires-clause-there
take_found-requires-clause-there g c =
    (found_is (g.K.ProblemKind.kind c.args.kind.now) (g.K.ProblemKind.header_of c.args.state.now) c.args.forms.now c.args.line.now.fields _ c.requires.forms c.in-Ok.ensures).there

pub take_found-requires-clause-is_counted : goal.take_found-requires-clause-is_counted
take_found-requires-clause-is_counted g c =
    (found_is (g.K.ProblemKind.kind c.args.kind.now) (g.K.ProblemKind.header_of c.args.state.now) c.args.forms.now c.args.line.now.fields _ c.requires.forms c.in-Ok.ensures).is_counted

pub take_found-requires-clause-fits : goal.take_found-requires-clause-fits
take_found-requires-clause-fits g c =
    (found_is (g.K.ProblemKind.kind c.args.kind.now) (g.K.ProblemKind.header_of c.args.state.now) c.args.forms.now c.args.line.now.fields _ c.requires.forms c.in-Ok.ensures).fits

pub returns-clause-judged : goal.returns-clause-judged
returns-clause-judged g c =
    rw (step_judged (g.K.ProblemKind.kind c.args.kind.now)
    (state_of (g.K.ProblemKind.header_of c.args.state.now) c.args.counted (g.K.ProblemKind.given_of c.args.state.now)) c.args.line.now c.args.forms.now
    (record { form = c.in-Ok.found.form; is_counted = c.in-Ok.found.is_counted; numbers = c.in-Ok.found.numbers.items }) c.number-2.result c.requires.forms c.in-Ok.ensures c.number-2.ensures) c.take_found.ensures.judged
