use Rattle.std.proofs.Common.{◌≡◌, map, take}
use Rattle.std.specs.Prelude.{pos}
use Rattle.pf_select.specs.Reduction.{part_arcs}
use Rattle.pf_select.proofs.network.push_parts.Given as goal

abbrev pub invariant-parts : goal.invariant-parts
invariant-parts l = l.arcs.items ≡ part_arcs 0 (map pos (take l.i l.costs))
