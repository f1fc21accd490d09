use Rattle.std.proofs.Common.{◌≡◌, ◌++◌, length, map, take}
use Rattle.pf_select.specs.Reduction.{need_arc}
use Rattle.pf_select.proofs.network.push_needs.Given as goal

abbrev pub invariant-needs : goal.invariant-needs
invariant-needs l = l.arcs.items ≡ l.fn.arcs.items ++ map (need_arc (length l.catalogue.costs)) (take l.k l.catalogue.needs)
