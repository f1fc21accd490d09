use Rattle.pf_share.specs.Reduction.{AreGroupsOf}
use Rattle.pf_share.proofs.solving.groups_of.Given as goal

abbrev pub invariant-nodes : goal.invariant-nodes
invariant-nodes l = AreGroupsOf l.joins l.first l.cuts l.groups l.v
