use Rattle.pf_piece.proofs.Opened.{whole, opening_made, nodes_few, opened_arcs, opened_graph, opened}
use Rattle.pf_piece.proofs.piece.Piece.between.Goals as goal

pub from_ends-requires-clause-few_nodes : goal.from_ends-requires-clause-few_nodes
from_ends-requires-clause-few_nodes c = nodes_few (whole c.args.net.now c.args.small.now c.args.large.now) c.in_ok-places.nodes c.frame.ensures.built c.requires c.in_ok-places.ensures.count

pub from_ends-requires-clause-few_arcs : goal.from_ends-requires-clause-few_arcs
from_ends-requires-clause-few_arcs c =
    opened_arcs (whole c.args.net.now c.args.small.now c.args.large.now) c.in_ok-places.places.items c.in_ok-kept.kept.items c.in_ok-places.nodes c.in_ok-ends.ends.items
    (opening_made (whole c.args.net.now c.args.small.now c.args.large.now) c.in_ok-places.places.items c.as_slice.result.now c.as_slice-2.result.now c.in_ok-kept.kept.items c.as_slice-3.result.now
    c.in_ok-places.nodes c.in_ok-ends.ends.items c.frame.ensures.built c.requires c.in_ok-places.ensures.places c.in_ok-places.ensures.count
    c.as_slice.ensures.value c.as_slice-2.ensures.value c.as_slice-3.ensures.value c.in_ok-kept.ensures c.in_ok-ends.ensures)

pub from_ends-requires-clause-graph : goal.from_ends-requires-clause-graph
from_ends-requires-clause-graph c =
    opened_graph (whole c.args.net.now c.args.small.now c.args.large.now) c.in_ok-places.places.items c.in_ok-kept.kept.items c.in_ok-places.nodes c.in_ok-ends.ends.items
    (opening_made (whole c.args.net.now c.args.small.now c.args.large.now) c.in_ok-places.places.items c.as_slice.result.now c.as_slice-2.result.now c.in_ok-kept.kept.items c.as_slice-3.result.now
    c.in_ok-places.nodes c.in_ok-ends.ends.items c.frame.ensures.built c.requires c.in_ok-places.ensures.places c.in_ok-places.ensures.count
    c.as_slice.ensures.value c.as_slice-2.ensures.value c.as_slice-3.ensures.value c.in_ok-kept.ensures c.in_ok-ends.ensures)

pub invariant_of-result : goal.invariant_of-result
invariant_of-result c =
    opened (whole c.args.net.now c.args.small.now c.args.large.now) c.in_ok-places.places.items c.in_ok-kept.kept.items c.in_ok-places.nodes c.in_ok-ends.ends.items c.in_ok-frame.frame
    (opening_made (whole c.args.net.now c.args.small.now c.args.large.now) c.in_ok-places.places.items c.as_slice.result.now c.as_slice-2.result.now c.in_ok-kept.kept.items c.as_slice-3.result.now
    c.in_ok-places.nodes c.in_ok-ends.ends.items c.frame.ensures.built c.requires c.in_ok-places.ensures.places c.in_ok-places.ensures.count
    c.as_slice.ensures.value c.as_slice-2.ensures.value c.as_slice-3.ensures.value c.in_ok-kept.ensures c.in_ok-ends.ensures)
    c.in_ok-frame.ensures
