use Rattle.std.proofs.Common.{ap, sym, ◌∙◌}
use Rattle.pf_graph.specs.Labels.{parts}
use Rattle.pf_graph.proofs.SamePartition.{parts_greatest}
use Rattle.pf_graph.proofs.partition.Partition.parts.Goals as goal

pub returns : goal.returns
returns c = c.self.invariant.count_is ∙ sym (parts_greatest _ _ c.self.invariant.partition) ∙ ap parts c.self.view_is
