use Rattle.pf_piece.proofs.Opened.{whole}
use Rattle.pf_piece.proofs.OpenedCore.{gathered_built, gathered_core}
use Rattle.pf_piece.proofs.cores.Core.between.Goals as goal

pub from_setting-requires : goal.from_setting-requires
from_setting-requires c =
    gathered_built (whole c.args.net.now c.args.small.now c.args.large.now) c.in_ok-places.places.items c.as_slice.result.now c.sense.result c.in_ok-places.nodes
    c.lo.result.now c.hi.result.now c.in_ok-arcs.arcs.items c.frame.ensures.built c.requires c.in_ok-places.ensures.places c.as_slice.ensures.value c.in_ok-arcs.ensures
    c.sense.ensures c.in_ok-places.ensures.count c.lo.ensures c.hi.ensures

pub invariant_of-result : goal.invariant_of-result
invariant_of-result c =
    gathered_core (whole c.args.net.now c.args.small.now c.args.large.now) c.in_ok-places.places.items c.as_slice.result.now c.sense.result c.in_ok-places.nodes
    c.lo.result.now c.hi.result.now c.in_ok-arcs.arcs.items c.in_ok-inner.inner c.frame.ensures.built c.requires c.in_ok-places.ensures.places c.as_slice.ensures.value
    c.in_ok-arcs.ensures c.sense.ensures c.in_ok-places.ensures.count c.lo.ensures c.hi.ensures c.in_ok-inner.ensures
