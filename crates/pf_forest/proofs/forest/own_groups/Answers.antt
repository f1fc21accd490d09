use Rattle.pf_forest.proofs.Standing.{own_more}
use Rattle.pf_forest.proofs.forest.own_groups.Goals as goal

pub vertices-preserved : goal.vertices-preserved
vertices-preserved c =
    let m = own_more c.vertices.groups.items c.push.new.self.items c.vertices.v c.in_ok-push.ensures.items c.vertices.invariant.full c.vertices.invariant.own in
    record { full = m.0; own = m.1 }
