use Rattle.pf_share.specs.Taken.{AreGrouped}
use Rattle.pf_share.proofs.answers.are_grouped.Given as goal

abbrev pub invariant-nodes : goal.invariant-nodes
invariant-nodes l = AreGrouped l.sharing l.groups l.v
