use Rattle.pf_frame.specs.Numbers.{AreWithin}
use Rattle.pf_frame.proofs.flow.is_within.Given as goal

abbrev pub invariant-arcs : goal.invariant-arcs
invariant-arcs l = AreWithin l.caps l.flow l.i
