use Rattle.pf_top.specs.Job.{answer}
use Rattle.pf_top.proofs.AnsweringLemmas.{accepted_problem}
use Rattle.pf_top.proofs.RunningLemmas.{end_write_fault}
use Rattle.pf_top.proofs.job.answer.Goals as goal

-- a write fault
pub returns : goal.returns
returns g c =
    let row = g.T.Job.row_of c.args.job.now in
    let problem = g.T.Job.problem_of c.args.job.now c.in-Ok.problem in
    end_write_fault g.O.Sink c.args.out.now c.hand_out.new.out (answer row) c.args.bytes.now problem c.in-Ok.ensures.read.rest
    (g.T.Job.text_of c.args.job.now c.in-Ok.problem c.in-Ok-solve.answer)
    (accepted_problem row c.args.bytes.now problem c.requires.short c.in-Ok.ensures.read c.in-Ok-solve.ensures.passed) c.in-Ok-solve.ensures.right
    c.hand_out.ensures.cause.later c.in-Err-hand_out.ensures.cause.failed (c.hand_out.ensures.grows, c.hand_out.ensures.front)
