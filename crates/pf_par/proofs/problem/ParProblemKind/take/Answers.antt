use Rattle.pf_par.specs.Text.{par}
use Rattle.pf_par.proofs.problem.ParProblemKind.take.Goals as goal

pub returns-in-1-clause-obeys : goal.returns-in-1-clause-obeys
unfolding par
returns-in-1-clause-obeys c = rw c.in-1.is c.end_line.ensures.obeys

pub returns-in-2-clause-obeys : goal.returns-in-2-clause-obeys
unfolding par
returns-in-2-clause-obeys c = rw c.in-2.is c.end_line-in-2.ensures.obeys

pub returns-in-3-clause-obeys : goal.returns-in-3-clause-obeys
unfolding par
returns-in-3-clause-obeys c = rw c.in-3.is c.interval_line.ensures.obeys

pub returns-in-4-clause-obeys : goal.returns-in-4-clause-obeys
unfolding par
returns-in-4-clause-obeys c = rw c.in-4.is c.sense_line.ensures.obeys
