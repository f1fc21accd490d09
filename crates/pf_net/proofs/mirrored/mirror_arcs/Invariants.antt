use Rattle.std.proofs.Common.{◌≡◌, take}
use Rattle.std.specs.Prelude.{map}
use Rattle.pf_model.specs.Mirror.{mirror_arc}
use Rattle.pf_net.proofs.mirrored.mirror_arcs.Given as goal

abbrev pub invariant-arcs : goal.invariant-arcs
invariant-arcs l = l.made.items ≡ map mirror_arc (take l.i l.arcs)
