use Rattle.std.proofs.Common.{sym, refl, ap, ◌∙◌, arith}
use Rattle.std.proofs.lemmas.Result.{err_from_is_err_and}
use Rattle.pf_text.specs.Kinds.{step}
use Rattle.pf_lines.specs.Gathering.{state_of}
use Rattle.pf_lines.proofs.PassedLines.{passed_none, passed_more, step_refusal, behind_refusal, stepped, too_few, made_at_end}
use Rattle.pf_lines.proofs.problem.take_lines.Goals as goal

pub lines-init : goal.lines-init
lines-init g c = record { same = refl; header = refl; room = omega arith; passed = passed_none c.args.lines.now }

pub returns-then-counted-most-clause-judged : goal.returns-then-counted-most-clause-judged
returns-then-counted-most-clause-judged g c =
    c.lines.invariant.same
    ∙ too_few (g.K.ProblemKind.kind c.args.kind.now) c.lines.lines c.next.new.self c.in-Some.line
    (state_of (g.K.ProblemKind.header_of c.lines.state) c.lines.counted (g.K.ProblemKind.given_of c.lines.state)) c.count-most.result c.number.result
    c.in-Some.ensures.given (sym c.is_end.ensures ∙ c.if-is_end.true)
    (c.count-most.ensures ∙ ap (g.K.ProblemKind.kind c.args.kind.now).count (sym c.lines.invariant.header)) c.if-counted-most.true c.number.ensures

pub returns-then-counted-most-clause-passed : goal.returns-then-counted-most-clause-passed
returns-then-counted-most-clause-passed g c =
    passed_more c.args.lines.now c.lines.lines c.next.new.self c.in-Some.line c.lines.invariant.passed c.in-Some.ensures.given c.in-Some.ensures.place

pub returns-then-is_end-clause-ended : goal.returns-then-is_end-clause-ended
returns-then-is_end-clause-ended g c =
    c.lines.invariant.same
    ∙ made_at_end (g.K.ProblemKind.kind c.args.kind.now) c.lines.lines c.next.new.self c.in-Some.line
    (state_of (g.K.ProblemKind.header_of c.lines.state) c.lines.counted (g.K.ProblemKind.given_of c.lines.state)) c.count-most.result
    c.in-Some.ensures.given (sym c.is_end.ensures ∙ c.if-is_end.true)
    (c.count-most.ensures ∙ ap (g.K.ProblemKind.kind c.args.kind.now).count (sym c.lines.invariant.header)) c.if-counted-most.false c.in-Some.ensures.place

pub returns-then-is_end-clause-passed : goal.returns-then-is_end-clause-passed
returns-then-is_end-clause-passed g c =
    passed_more c.args.lines.now c.lines.lines c.next.new.self c.in-Some.line c.lines.invariant.passed c.in-Some.ensures.given c.in-Some.ensures.place

pub returns-in_err-counted-clause-refused : goal.returns-in_err-counted-clause-refused
returns-in_err-counted-clause-refused g c =
    let state = state_of (g.K.ProblemKind.header_of c.lines.state) c.lines.counted (g.K.ProblemKind.given_of c.lines.state) in
    let given = err_from_is_err_and c.from_residual.result c.from_residual.ensures.1 in
    rw (given.1, given.2)
    (behind_refusal (step (g.K.ProblemKind.kind c.args.kind.now) state c.in-Some.line)
    (λ n. state_of (g.K.ProblemKind.header_of c.take_line.new.state) n (g.K.ProblemKind.given_of c.take_line.new.state))
    c.in_err-counted.field-0.0 c.in-Some.line c.next.new.self c.in_err-counted.ensures.judged (step_refusal (g.K.ProblemKind.kind c.args.kind.now) state c.in-Some.line) c.in-Some.ensures.place)

pub returns-in_err-counted-clause-passed : goal.returns-in_err-counted-clause-passed
returns-in_err-counted-clause-passed g c =
    passed_more c.args.lines.now c.lines.lines c.next.new.self c.in-Some.line c.lines.invariant.passed c.in-Some.ensures.given c.in-Some.ensures.place

pub lines-preserved-in_ok-counted : goal.lines-preserved-in_ok-counted
lines-preserved-in_ok-counted g c = record {
  same = c.lines.invariant.same ∙ stepped (g.K.ProblemKind.kind c.args.kind.now) c.lines.lines c.next.new.self c.in-Some.line
      (state_of (g.K.ProblemKind.header_of c.lines.state) c.lines.counted (g.K.ProblemKind.given_of c.lines.state))
      (state_of (g.K.ProblemKind.header_of c.take_line.new.state) c.in_ok-counted.counted (g.K.ProblemKind.given_of c.take_line.new.state))
      c.in-Some.ensures.given (sym c.is_end.ensures ∙ c.if-is_end.false) c.in_ok-counted.ensures.judged;
  header = c.take_line.ensures.header ∙ c.lines.invariant.header;
  room = c.in_ok-counted.ensures.room;
  passed = passed_more c.args.lines.now c.lines.lines c.next.new.self c.in-Some.line c.lines.invariant.passed c.in-Some.ensures.given c.in-Some.ensures.place;
}

pub lines-preserved : goal.lines-preserved
lines-preserved g c = record {
  same = c.lines.invariant.same ∙ stepped (g.K.ProblemKind.kind c.args.kind.now) c.lines.lines c.next.new.self c.in-Some.line
      (state_of (g.K.ProblemKind.header_of c.lines.state) c.lines.counted (g.K.ProblemKind.given_of c.lines.state))
      (state_of (g.K.ProblemKind.header_of c.take_line.new.state) c.in_ok-counted.counted (g.K.ProblemKind.given_of c.take_line.new.state))
      c.in-Some.ensures.given (sym c.is_end.ensures ∙ c.if-is_end.false) c.in_ok-counted.ensures.judged;
  header = c.take_line.ensures.header ∙ c.lines.invariant.header;
  room = c.in_ok-counted.ensures.room;
  passed = passed_more c.args.lines.now c.lines.lines c.next.new.self c.in-Some.line c.lines.invariant.passed c.in-Some.ensures.given c.in-Some.ensures.place;
}
