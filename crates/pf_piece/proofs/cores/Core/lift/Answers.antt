use Rattle.std.proofs.Common.{subst}
use Rattle.pf_piece.specs.Piece.{Between}
use Rattle.pf_piece.specs.Held.{HasPlaces}
use Rattle.pf_piece.proofs.Opened.{places_known, lifted}
use Rattle.pf_piece.proofs.cores.Core.lift.Goals as goal

pub write_lift-requires-clause-nodes : goal.write_lift-requires-clause-nodes
write_lift-requires-clause-nodes c =
    let P : Between → Type 0 = λ p. HasPlaces p c.self.inside.places.items in
    let known = subst P c.self.view_is c.self.invariant.places_are in
    places_known c.args.self.now c.self.inside.places.items c.as_slice.result.now c.args.core_side.now known c.as_slice.ensures.value c.requires.cut

pub returns : goal.returns
returns c =
    let P : Between → Type 0 = λ p. HasPlaces p c.self.inside.places.items in
    let known = subst P c.self.view_is c.self.invariant.places_are in
    lifted c.args.self.now c.self.inside.places.items c.as_slice.result.now c.args.core_side.now c.write_lift.new.side known c.as_slice.ensures.value
    c.write_lift.ensures.full c.write_lift.ensures.each
