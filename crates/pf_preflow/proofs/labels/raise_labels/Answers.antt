use Rattle.std.proofs.Common.{get_or, set, ◌≡◌, ◌-◌, ◌+◌, arith, ap, ◌∙◌}
use Rattle.pf_preflow.proofs.RaisedLabels.{raise_next}
use Rattle.pf_preflow.proofs.labels.raise_labels.Goals as goal
use Rattle.pf_preflow.proofs.labels.raise_labels.Goals.{then-labels-v, else-labels-v}

pub nodes-preserved : goal.nodes-preserved
nodes-preserved g c =
    raise_next c.args.labels.now c.args.other.now c.nodes.labels c.if-labels-v.labels c.nodes.v c.args.steps.now c.nodes.steps c.if-labels-v.steps c.nodes.invariant
    (omega (arith, c.requires.same))
    (elim c.if-labels-v.branch [
      | then-labels-v w ↦
          let some = w.if-labels-v.true in
          let back : (get_or c.args.other.now c.nodes.v 0 - 1) + 1 ≡ get_or c.args.other.now c.nodes.v 0 = omega (arith, some) in
          record {
            up = λ h. let e = w.relabel.ensures.up (omega (arith, back, h)) in (w.labels-is ∙ e.0 ∙ ap (set c.nodes.labels c.nodes.v) back, w.steps-is ∙ e.1);
            stays = λ h. let e = w.relabel.ensures.stays (omega (arith, back, h)) in (w.labels-is ∙ e.0, w.steps-is ∙ e.1);
          }
      | else-labels-v w ↦
          let none = w.if-labels-v.false in
          record {
            up = λ h. absurd (omega (arith, none, h));
            stays = λ h. (w.labels-is, w.steps-is);
          }
    ])
