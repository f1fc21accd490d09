use Rattle.std.proofs.Common.{◌≡◌, length, arith, ap, ◌∙◌}
use Rattle.pf_graph.specs.Labels.{label}
use Rattle.pf_trees.proofs.Joining.{joined_starts, joined_more, joined_skip}
use Rattle.pf_trees.proofs.labels.join_marked.Goals as goal
use Rattle.pf_trees.proofs.labels.join_marked.Goals.{then-mark-x, else-mark-x}

pub edges-init : goal.edges-init
edges-init c = joined_starts c.args.n c.args.ends.now c.args.mark.now c.apart.new.labels (omega arith) c.apart.ensures

pub edges-preserved : goal.edges-preserved
edges-preserved c =
    let full : length c.if-mark-x.labels ≡ c.args.n = omega arith in
    let before : length c.edges.labels ≡ c.args.n = omega arith in
    elim c.if-mark-x.branch [
      | then-mark-x w ↦
          joined_more c.args.n c.args.ends.now c.args.mark.now c.edges.x c.edges.labels c.if-mark-x.labels c.requires.graph c.edges.invariant (omega arith) w.if-mark-x.true full
          (λ v hv. ap (λ l. label l v) w.labels-is ∙ w.rename.ensures v (omega (arith, before, hv)))
      | else-mark-x w ↦ rw w.labels-is (joined_skip c.args.n c.args.ends.now c.args.mark.now c.edges.x c.edges.labels c.edges.invariant w.if-mark-x.false)
    ]
