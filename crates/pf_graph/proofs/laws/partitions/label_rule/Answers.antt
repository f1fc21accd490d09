use Rattle.pf_graph.proofs.ByRule.{by_rule}
use Rattle.pf_graph.proofs.SamePartition.{parts_greatest, same_partition}
use Rattle.pf_graph.proofs.laws.partitions.label_rule.Goals as goal

pub returns : goal.returns
returns c = record {
  parts = parts_greatest;
  list = same_partition;
  each = by_rule;
}
