use Rattle.pf_preflow.specs.Raising.{AreRaised}
use Rattle.pf_preflow.proofs.labels.raise_labels.Given as goal

abbrev pub invariant-nodes : goal.invariant-nodes
invariant-nodes g l = AreRaised l.initial.labels l.other l.labels l.v l.initial.steps l.steps
