use Rattle.std.proofs.Common.{◌≡◌, map, take, drop, not}
use Rattle.pf_select.proofs.solving.outside.Given as goal

abbrev pub invariant-parts : goal.invariant-parts
invariant-parts l = l.set.items ≡ map not (take l.i (drop 1 l.cut))
