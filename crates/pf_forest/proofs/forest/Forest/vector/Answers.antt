use Rattle.std.proofs.Common.{subst}
use Rattle.pf_forest.specs.Forest.{IsKept}
use Rattle.pf_forest.proofs.Standing.{kept_of}
use Rattle.pf_forest.proofs.forest.Forest.vector.Goals as goal

pub returns-clause-kept : goal.returns-clause-kept
returns-clause-kept c = subst IsKept c.self.view_is (record { filled = kept_of _ _ _ _ _ _ _ _ _ _ c.frame.ensures.limits.graph c.self.invariant })
