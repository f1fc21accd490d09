use Rattle.pf_graph.specs.Labels.{parts}
use Rattle.pf_strength.specs.Newton.{IsStep}
use Rattle.pf_strength.proofs.newton.find.Given as goal

abbrev pub invariant-steps : goal.invariant-steps
invariant-steps l = IsStep l.graph l.level l.best l.forest l.found

abbrev pub decreases-steps : goal.decreases-steps
decreases-steps l = parts l.best
