use Rattle.std.proofs.Common.{◌≡◌, ◌≤◌, length, take}
use Rattle.pf_share.specs.Grouped.{group_net}
use Rattle.pf_share.proofs.grouped.push_arcs.Given as goal

abbrev pub invariant-arcs : goal.invariant-arcs
invariant-arcs l = record {
  within : l.i ≤ length l.sharing.ends;
  front : l.ends.items ≡ take l.i (group_net l.sharing l.answer.levels l.answer.groups).ends;
}
