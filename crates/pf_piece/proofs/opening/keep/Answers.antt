use Rattle.std.proofs.Common.{◌+◌, length, arith, ap, refl}
use Rattle.std.proofs.lemmas.List.{length-map}
use Rattle.pf_model.specs.Digraph.{Digraph}
use Rattle.pf_model.specs.Network.{ends_of}
use Rattle.pf_piece.proofs.Openings.{kept_step, keeping_begins}
use Rattle.pf_piece.proofs.opening.keep.Goals as goal

pub arcs-init : goal.arcs-init
arcs-init c = keeping_begins c.args.net.now.arcs c.args.places.now c.args.kept.now c.requires.room

pub arcs-preserved : goal.arcs-preserved
arcs-preserved c =
    let count = c.arcs-i-end.ensures.value in
    let frame = ap (λ (g : Digraph). length g.ends) c.frame.ensures.frame in
    kept_step _ c.args.net.now.arcs c.args.places.now c.arcs.kept c.arcs.count _ c.arcs.i c.arcs.invariant
    (omega (arith, c.arcs-test.true, count, frame, length-map c.args.net.now.arcs ends_of)) refl (ap (λ n. c.arcs.count + n) c.kept_by-count.ensures)
