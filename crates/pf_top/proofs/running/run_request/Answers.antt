use Rattle.pf_top.proofs.running.run_request.Goals as goal

pub returns-in-At : goal.returns-in-At
returns-in-At g c = rw c.in-At.is c.answer.ensures

pub returns-in-Sweep : goal.returns-in-Sweep
returns-in-Sweep g c = rw c.in-Sweep.is c.answer-in-Sweep.ensures

pub returns-in-Trees : goal.returns-in-Trees
returns-in-Trees g c = rw c.in-Trees.is c.answer-in-Trees.ensures

pub returns-in-Reinforce : goal.returns-in-Reinforce
returns-in-Reinforce g c = rw c.in-Reinforce.is c.answer-in-Reinforce.ensures

pub returns-in-Layers : goal.returns-in-Layers
returns-in-Layers g c = rw c.in-Layers.is c.answer-in-Layers.ensures

pub returns-in-Named : goal.returns-in-Named
returns-in-Named g c = rw c.in-Named.is c.give_named.ensures
