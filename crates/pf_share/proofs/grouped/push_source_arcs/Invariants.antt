use Rattle.std.proofs.Common.{◌≡◌, ◌+◌, length, take}
use Rattle.pf_share.specs.Grouped.{group_net}
use Rattle.pf_share.proofs.grouped.push_source_arcs.Given as goal

abbrev pub invariant-nodes : goal.invariant-nodes
invariant-nodes l = l.ends.items ≡ take (length l.sharing.ends + l.v) (group_net l.sharing l.answer.levels l.answer.groups).ends
