use Rattle.std.proofs.Common.{◌<◌, length, [], ◌∷◌, ◌++◌, true, false, arith, ap, sym, ◌∙◌}
use Rattle.std.proofs.lemmas.List.{append-nil}
use Rattle.pf_piece.specs.Piece.{piece_of}
use Rattle.pf_piece.proofs.Openings.{inner_more}
use Rattle.pf_piece.proofs.inner.inner_arcs.Goals as goal
use Rattle.pf_piece.proofs.inner.inner_arcs.Goals.{then-has_inner_end+in_ok-push, else-has_inner_end}

pub arcs-preserved : goal.arcs-preserved
arcs-preserved c =
    let arcs = (piece_of c.args.piece.now).arcs in
    let low : c.arcs.i < length arcs = omega (arith, c.arcs-test.true, c.arc_count-i-end.ensures) in
    elim c.if-has_inner_end.branch [
      | then-has_inner_end+in_ok-push w ↦ rw w.arcs-is
          (inner_more arcs c.arcs.arcs.items _ c.arcs.i true low c.arcs.invariant (sym w.if-has_inner_end.true ∙ c.has_inner_end.ensures)
          (w.in_ok-push.ensures.items ∙ ap (λ x. c.arcs.arcs.items ++ x ∷ []) w.arc.ensures))
      | else-has_inner_end w ↦ rw w.arcs-is
          (inner_more arcs c.arcs.arcs.items _ c.arcs.i false low c.arcs.invariant (sym w.if-has_inner_end.false ∙ c.has_inner_end.ensures) (sym (append-nil c.arcs.arcs.items)))
    ]
