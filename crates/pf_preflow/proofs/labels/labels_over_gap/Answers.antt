use Rattle.std.proofs.Common.{length, arith}
use Rattle.pf_preflow.proofs.RaisedLabels.{over_next}
use Rattle.pf_preflow.proofs.labels.labels_over_gap.Goals as goal

pub nodes-preserved : goal.nodes-preserved
nodes-preserved c =
    over_next (length c.args.labels.now) c.args.gap c.args.labels.now c.nodes.other c.nodes.v c.label_over_gap.result c.nodes.invariant
    (omega arith) c.label_over_gap.ensures.over c.label_over_gap.ensures.low
