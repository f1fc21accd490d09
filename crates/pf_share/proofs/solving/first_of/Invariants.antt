use Rattle.pf_share.specs.Reduction.{IsNoJoin}
use Rattle.pf_share.proofs.solving.first_of.Given as goal

abbrev pub invariant-nodes : goal.invariant-nodes
invariant-nodes l = IsNoJoin l.joins l.v 0
