use Rattle.std.proofs.Common.{[]}
use Rattle.pf_lines.proofs.WholeTexts.{alone, whole, not_refused}
use Rattle.pf_select.proofs.answers.read_schedule.Goals as goal

pub returns-in_err-answer-clause-refused : goal.returns-in_err-answer-clause-refused
returns-in_err-answer-clause-refused c = λ e answer shape there.
    not_refused c.in_err-answer.field-0.0 c.from_residual.result c.from_residual.ensures.1 e (c.in_err-answer.ensures.found answer [] shape (alone c.new-rest.ensures there))

pub returns-in_err-take_end-clause-refused : goal.returns-in_err-take_end-clause-refused
returns-in_err-take_end-clause-refused c = λ e answer shape there.
    let found = c.in_ok-answer.ensures.found answer [] shape (alone c.new-rest.ensures there) in
    absurd (c.in_err-take_end.ensures.found found.1)

pub returns-clause-text : goal.returns-clause-text
returns-clause-text c = whole c.new-rest.ensures c.in_ok-answer.ensures.taken c.in_ok-take_end.ensures.taken
