use Rattle.std.proofs.Common.{◌∙◌, sym}
use Rattle.std.proofs.lemmas.Result.{err_from_is_err_and}
use Rattle.pf_text.specs.Kinds.{header}
use Rattle.pf_lines.specs.Gathering.{state_of}
use Rattle.pf_lines.proofs.PassedLines.{passed_none, passed_more, passed_nothing, passed_then, header_refusal, behind_refusal, begun, comes_from_lines, refused_at_end}
use Rattle.pf_lines.specs.Places.{lines_left}
use Rattle.pf_lines.proofs.problem.read_problem.Goals as goal

pub returns-in_default-clause-passed : goal.returns-in_default-clause-passed
returns-in_default-clause-passed g c = passed_nothing c.args.lines.now c.args.lines.now c.next.new.self (passed_none c.args.lines.now) c.in_default.ensures.place

pub returns-in_err-state-clause-refused : goal.returns-in_err-state-clause-refused
returns-in_err-state-clause-refused g c =
    let given = err_from_is_err_and c.from_residual.result c.from_residual.ensures.1 in
    rw (given.1, given.2)
    (behind_refusal (header (g.K.ProblemKind.kind c.args.kind.now) c.in-Some.first) (λ (state : g.row.K-State.Denot). state_of (g.K.ProblemKind.header_of state) 0 (g.K.ProblemKind.given_of state))
    c.in_err-state.field-0.0 c.in-Some.first c.next.new.self c.in_err-state.ensures (header_refusal (g.K.ProblemKind.kind c.args.kind.now) c.in-Some.first) c.in-Some.ensures.place)

pub returns-in_err-state-clause-passed : goal.returns-in_err-state-clause-passed
returns-in_err-state-clause-passed g c =
    passed_more c.args.lines.now c.args.lines.now c.next.new.self c.in-Some.first (passed_none c.args.lines.now) c.in-Some.ensures.given c.in-Some.ensures.place

pub returns-in_err-take_body-clause-passed : goal.returns-in_err-take_body-clause-passed
returns-in_err-take_body-clause-passed g c =
    passed_then c.args.lines.now c.next.new.self c.take_body.new.lines
    (passed_more c.args.lines.now c.args.lines.now c.next.new.self c.in-Some.first (passed_none c.args.lines.now) c.in-Some.ensures.given c.in-Some.ensures.place) c.in_err-take_body.ensures.passed

pub finish-requires : goal.finish-requires
finish-requires g c =
    comes_from_lines (g.K.ProblemKind.kind c.args.kind.now) (lines_left c.args.lines.now) c.take_body.new.lines (g.K.ProblemKind.header_of c.take_body.new.state) (g.K.ProblemKind.given_of c.take_body.new.state)
    (begun (g.K.ProblemKind.kind c.args.kind.now) c.args.lines.now c.next.new.self c.in-Some.first (state_of (g.K.ProblemKind.header_of c.in_ok-state.state) 0 (g.K.ProblemKind.given_of c.in_ok-state.state))
    c.in-Some.ensures.given c.in_ok-state.ensures ∙ c.in_ok-take_body.ensures.ended)

pub returns-clause-judged : goal.returns-clause-judged
returns-clause-judged g c =
    rw (begun (g.K.ProblemKind.kind c.args.kind.now) c.args.lines.now c.next.new.self c.in-Some.first (state_of (g.K.ProblemKind.header_of c.in_ok-state.state) 0 (g.K.ProblemKind.given_of c.in_ok-state.state))
    c.in-Some.ensures.given c.in_ok-state.ensures ∙ c.in_ok-take_body.ensures.ended) (c.finish.ensures c.take_body.new.lines (sym c.number.ensures))

pub returns-clause-refused : goal.returns-clause-refused
returns-clause-refused g c =
    refused_at_end c.take_body.new.lines _ _ c.finish.result (c.finish.ensures c.take_body.new.lines (sym c.number.ensures))

pub returns-clause-passed : goal.returns-clause-passed
returns-clause-passed g c =
    passed_then c.args.lines.now c.next.new.self c.take_body.new.lines
    (passed_more c.args.lines.now c.args.lines.now c.next.new.self c.in-Some.first (passed_none c.args.lines.now) c.in-Some.ensures.given c.in-Some.ensures.place) c.in_ok-take_body.ensures.passed
