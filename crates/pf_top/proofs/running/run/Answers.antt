use Rattle.pf_top.proofs.running.run.Goals as goal

pub returns-clause-usage : goal.returns-clause-usage
returns-clause-usage g c = rw c.tell.ensures.same c.decide.ensures.usage

pub returns-clause-run : goal.returns-clause-run
returns-clause-run g c = rw c.tell.ensures.same c.decide.ensures.run

pub returns-clause-err : goal.returns-clause-err
returns-clause-err g c = rw c.tell.ensures.same c.tell.ensures.line
