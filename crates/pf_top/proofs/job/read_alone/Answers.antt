use Rattle.std.proofs.lemmas.Result.{err_from_is_err_and}
use Rattle.pf_top.specs.Job.{answer}
use Rattle.pf_top.proofs.AnsweringLemmas.{refused_text, refused_line, problem_alone}
use Rattle.pf_top.proofs.job.read_alone.Goals as goal

pub returns-in_err-problem-clause-refused : goal.returns-in_err-problem-clause-refused
returns-in_err-problem-clause-refused g c = λ refusal e.
    let p = err_from_is_err_and c.from_residual.result c.from_residual.ensures.1 in
    let same = p.1 in
    let was = c.in_err-problem.was in
    refused_text (answer (g.T.Job.row_of c.args.job.now)) c.args.bytes.now c.new-lines.result refusal c.requires.short c.new-lines.ensures (c.read_problem.ensures.refused refusal (cc))

pub returns-in-None-clause-read : goal.returns-in-None-clause-read
returns-in-None-clause-read g c =
    problem_alone (g.T.Job.row_of c.args.job.now) c.args.bytes.now c.new-lines.result c.read_problem.new.lines _ c.new-lines.ensures c.in_ok-problem.ensures.read c.in-None.ensures.given

pub returns-in-Some-clause-refused : goal.returns-in-Some-clause-refused
returns-in-Some-clause-refused g c = λ refusal e.
    refused_line (g.T.Job.row_of c.args.job.now) c.args.bytes.now c.new-lines.result c.read_problem.new.lines _ c.in-Some.line _ refusal c.requires.short c.new-lines.ensures
    c.in_ok-problem.ensures.read c.in-Some.ensures.given (cc)
