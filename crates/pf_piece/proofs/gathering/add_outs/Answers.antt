use Rattle.std.proofs.Common.{true, false, sym}
use Rattle.std.proofs.lemmas.Bool.{eq-eqb, ne_eqb}
use Rattle.std.proofs.lemmas.List.{append-nil}
use Rattle.pf_piece.specs.Held.{placed}
use Rattle.pf_piece.proofs.Rows.{outs_row}
use Rattle.pf_piece.proofs.gathering.add_outs.Goals as goal
use Rattle.pf_piece.proofs.gathering.add_outs.Goals.{then-arc+in_ok-push, else-arc}

pub row-preserved : goal.row-preserved
row-preserved c =
    elim c.if-arc.branch [
      | then-arc+in_ok-push w ↦ rw w.arcs-is
          (outs_row (placed c.args.places.now) c.args.net.now.arcs c.args.row.now c.args.arcs.now.items c.row.arcs.items _ c.arc_between-arc.result c.row.k false
          c.row-test.true c.row.invariant c.arc_between-arc.ensures (sym (ne_eqb _ _ w.if-arc.true)) w.in_ok-push.ensures.items)
      | else-arc w ↦ rw w.arcs-is
          (outs_row (placed c.args.places.now) c.args.net.now.arcs c.args.row.now c.args.arcs.now.items c.row.arcs.items _ c.arc_between-arc.result c.row.k true
          c.row-test.true c.row.invariant c.arc_between-arc.ensures (sym (eq-eqb _ _ w.if-arc.false)) (sym (append-nil c.row.arcs.items)))
    ]
