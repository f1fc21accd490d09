use Rattle.pf_graph.proofs.ByRule.{same_parts, same_crossing, same_crossing_edges}
use Rattle.pf_graph.proofs.laws.partitions.same_partition.Goals as goal

pub returns : goal.returns
returns c = record {
  parts = same_parts;
  crossing = same_crossing;
  edges = same_crossing_edges;
}
