use Rattle.std.proofs.Common.{refl, ap, Err}
use Rattle.pf_text.specs.Verdict.{verdict_text}
use Rattle.pf_top.specs.Job.{check}
use Rattle.pf_top.proofs.AnsweringLemmas.{refused_text, accepted_behind}
use Rattle.pf_top.proofs.RunningLemmas.{end_stopped, end_checked, end_write_fault}
use Rattle.pf_top.proofs.job.check.Goals as goal

pub returns-in-Err : goal.returns-in-Err
returns-in-Err g c =
    let row = g.T.Job.row_of c.args.job.now in
    rw c.from.ensures (end_stopped g.O.Sink c.args.out.now (check row) c.args.bytes.now c.in-Err.stop (λ refusal same.
    refused_text (check row) c.args.bytes.now c.new-lines.result refusal c.requires.short c.new-lines.ensures (c.in-Err.ensures.refused refusal (ap Err same))))

-- the verdict
pub returns-in-Ok-hand_verdict : goal.returns-in-Ok-hand_verdict
returns-in-Ok-hand_verdict g c =
    let row = g.T.Job.row_of c.args.job.now in
    let problem = g.T.Job.problem_of c.args.job.now c.in-Ok.problem in
    let holds = c.in-Ok-certifies.holds in
    rw c.verdict_status.ensures
    (end_checked g.O.Sink c.args.out.now c.hand_verdict.new.out row c.args.bytes.now problem c.read_problem.new.lines.rest holds
    (accepted_behind row c.args.bytes.now c.new-lines.result c.read_problem.new.lines problem c.requires.short c.new-lines.ensures c.in-Ok.ensures.read)
    (record { verdict = holds; exact = rw c.rest.ensures at c.in-Ok-certifies.ensures; text_is = refl })
    c.hand_verdict.ensures.cause.later c.in-Ok-hand_verdict.ensures.whole)

-- a write fault
pub returns : goal.returns
returns g c =
    let row = g.T.Job.row_of c.args.job.now in
    let problem = g.T.Job.problem_of c.args.job.now c.in-Ok.problem in
    let holds = c.in-Ok-certifies.holds in
    end_write_fault g.O.Sink c.args.out.now c.hand_verdict.new.out (check row) c.args.bytes.now problem c.read_problem.new.lines.rest (verdict_text holds)
    (accepted_behind row c.args.bytes.now c.new-lines.result c.read_problem.new.lines problem c.requires.short c.new-lines.ensures c.in-Ok.ensures.read)
    (record { verdict = holds; exact = rw c.rest.ensures at c.in-Ok-certifies.ensures; text_is = refl })
    c.hand_verdict.ensures.cause.later c.in-Err-hand_verdict.ensures.cause.failed (c.hand_verdict.ensures.grows, c.hand_verdict.ensures.front)
