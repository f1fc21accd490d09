use Rattle.std.proofs.Common.{true, false, arith, ◌<◌, length, sym, ◌∙◌}
use Rattle.std.proofs.lemmas.Int.{ints}
use Rattle.pf_model.proofs.Affine.{no_arc}
use Rattle.pf_net.proofs.LineSums.{next_sum}
use Rattle.pf_net.proofs.sums.line_of.Goals as goal
use Rattle.pf_net.proofs.sums.line_of.Goals.{then-leads_out, else-leads_out}

pub arcs-preserved : goal.arcs-preserved
arcs-preserved c =
    let low : c.arcs.arc-index < length c.args.arcs.now = omega arith in
    let small = c.requires.small c.arcs.arc-index no_arc low in
    elim c.if-leads_out.branch [
      | then-leads_out w ↦
          next_sum c.args.side.now c.args.arcs.now c.arcs.arc-index _ _ _ _ true c.requires.small low c.arcs.invariant
          (sym c.leads_out.ensures ∙ w.if-leads_out.true) (omega (arith, ints, w.from-a.ensures, small)) (omega (arith, ints, w.from-b.ensures, small))
      | else-leads_out w ↦
          next_sum c.args.side.now c.args.arcs.now c.arcs.arc-index _ _ _ _ false c.requires.small low c.arcs.invariant
          (sym c.leads_out.ensures ∙ w.if-leads_out.false) (omega (arith, ints)) (omega (arith, ints))
    ]
