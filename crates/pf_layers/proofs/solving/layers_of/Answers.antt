use Rattle.pf_layers.proofs.RightLemmas.{right_dense, right_ratio}
use Rattle.pf_layers.proofs.solving.layers_of.Goals as goal

pub returns-in-Graph-clause-answer : goal.returns-in-Graph-clause-answer
returns-in-Graph-clause-answer c = rw c.in-Graph.is c.dense_layers.ensures

pub returns-in-Graph-clause-text : goal.returns-in-Graph-clause-text
returns-in-Graph-clause-text c = rw c.in-Graph.is (right_dense c.in-Graph.graph c.dense_layers.result c.dense_layers.ensures)

pub returns-in-Closure-clause-answer : goal.returns-in-Closure-clause-answer
returns-in-Closure-clause-answer c = rw c.in-Closure.is c.ratio_layers.ensures

pub returns-in-Closure-clause-text : goal.returns-in-Closure-clause-text
returns-in-Closure-clause-text c = rw c.in-Closure.is (right_ratio c.in-Closure.items c.ratio_layers.result c.ratio_layers.ensures)
