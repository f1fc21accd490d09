use Rattle.std.proofs.Common.{arith, refl}
use Rattle.pf_piece.proofs.Openings.{placing_begins, placing_more, placing_ends, placing_few, added_few}
use Rattle.pf_piece.proofs.opening.write_places.Goals as goal

pub nodes-init : goal.nodes-init
nodes-init c = placing_begins c.args.small.now c.args.large.now c.args.places.now c.requires.places

pub overflow_add-next : goal.overflow_add-next
overflow_add-next c =
    let few = placing_few c.args.small.now c.args.large.now c.nodes.places c.nodes.next c.nodes.v c.nodes.invariant in
    let more = added_few _ c.added-next.result c.added-next.ensures in
    omega (arith, few, more, c.requires.few, c.nodes-test.true)

pub nodes-preserved : goal.nodes-preserved
nodes-preserved c =
    placing_more c.args.small.now c.args.large.now c.nodes.places _ c.nodes.next _ c.nodes.v c.place_of.result c.added-next.result c.nodes.invariant
    c.nodes-test.true refl c.place_of.ensures refl c.added-next.ensures

pub returns-clause-count : goal.returns-clause-count
returns-clause-count c =
    placing_ends c.args.small.now c.args.large.now c.nodes.places c.nodes.next c.nodes.v c.nodes.invariant c.nodes-test.false (omega arith)
