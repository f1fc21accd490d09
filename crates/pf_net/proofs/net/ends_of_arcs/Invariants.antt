use Rattle.std.proofs.Common.{◌≡◌, take}
use Rattle.std.specs.Prelude.{map}
use Rattle.pf_model.specs.Network.{ends_of}
use Rattle.pf_net.proofs.net.ends_of_arcs.Given as goal

abbrev pub invariant-arcs : goal.invariant-arcs
invariant-arcs l = l.ends.items ≡ map ends_of (take l.arc-index l.arcs)
