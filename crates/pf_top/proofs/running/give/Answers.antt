use Rattle.pf_top.proofs.running.give.Goals as goal

pub returns-in-Answer : goal.returns-in-Answer
returns-in-Answer g c = rw c.in-Answer.is c.answer.ensures

pub returns-in-Check : goal.returns-in-Check
returns-in-Check g c = rw c.in-Check.is c.check.ensures
