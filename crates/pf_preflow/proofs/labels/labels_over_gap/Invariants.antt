use Rattle.std.proofs.Common.{length}
use Rattle.pf_preflow.specs.Raising.{AreOverGap}
use Rattle.pf_preflow.proofs.labels.labels_over_gap.Given as goal

abbrev pub invariant-nodes : goal.invariant-nodes
invariant-nodes l = AreOverGap (length l.labels) l.gap l.labels l.other l.v
