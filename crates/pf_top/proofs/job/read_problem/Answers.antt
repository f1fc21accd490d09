use Rattle.std.proofs.Common.{ap, ◌∙◌, Err}
use Rattle.pf_top.proofs.AnsweringLemmas.{read_to, bad_text}
use Rattle.pf_top.proofs.job.read_problem.Goals as goal

pub returns-in-Ok-clause-read : goal.returns-in-Ok-clause-read
returns-in-Ok-clause-read g c =
    read_to (g.T.Job.row_of c.args.job.now) (g.T.Job.problem_of c.args.job.now) c.args.lines.now c.read.new.lines c.read.result c.in-Ok.problem c.read.ensures.judged c.in-Ok.is

pub returns-in-Err-Text-clause-refused : goal.returns-in-Err-Text-clause-refused
returns-in-Err-Text-clause-refused g c = λ refusal e.
    bad_text (g.T.Job.row_of c.args.job.now) _ c.args.lines.now c.read.result c.in-Err-Text.bad refusal c.read.ensures.judged (c.in-Err-Text.is ∙ ap Err c.in-Err-Text.field-0-is) cc
