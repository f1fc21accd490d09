use Rattle.pf_lines.proofs.PassedLines.{passed_none}
use Rattle.pf_lines.proofs.problem.take_body.Goals as goal

pub returns-in_err-forms-clause-passed : goal.returns-in_err-forms-clause-passed
returns-in_err-forms-clause-passed g c = passed_none c.args.lines.now
