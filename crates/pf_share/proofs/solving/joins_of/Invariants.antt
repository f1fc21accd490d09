use Rattle.pf_share.specs.Reduction.{AreJoins}
use Rattle.pf_share.proofs.solving.joins_of.Given as goal

abbrev pub invariant-nodes : goal.invariant-nodes
invariant-nodes l = AreJoins l.curve.cuts l.joins.items l.v
