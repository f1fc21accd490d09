use Rattle.std.proofs.Common.{true, false, sym}
use Rattle.std.proofs.lemmas.Bool.{lt-ltb, le-ltb}
use Rattle.std.proofs.lemmas.List.{append-nil}
use Rattle.pf_piece.specs.Held.{placed}
use Rattle.pf_piece.proofs.Rows.{ins_row}
use Rattle.pf_piece.proofs.gathering.add_ins.Goals as goal
use Rattle.pf_piece.proofs.gathering.add_ins.Goals.{then-arc-lt2+in_ok-push, else-arc-lt2}

pub row-preserved : goal.row-preserved
row-preserved c =
    elim c.if-arc-lt2.branch [
      | then-arc-lt2+in_ok-push w ↦ rw w.arcs-is
          (ins_row (placed c.args.places.now) c.args.net.now.arcs c.args.row.now c.args.arcs.now.items c.row.arcs.items _ c.arc_between-arc.result c.row.k true
          c.row-test.true c.row.invariant c.arc_between-arc.ensures (sym (lt-ltb _ _ w.if-arc-lt2.true)) w.in_ok-push.ensures.items)
      | else-arc-lt2 w ↦ rw w.arcs-is
          (ins_row (placed c.args.places.now) c.args.net.now.arcs c.args.row.now c.args.arcs.now.items c.row.arcs.items _ c.arc_between-arc.result c.row.k false
          c.row-test.true c.row.invariant c.arc_between-arc.ensures (sym (le-ltb _ _ w.if-arc-lt2.false)) (sym (append-nil c.row.arcs.items)))
    ]
