use Rattle.pf_select.specs.Carried.{AreSelections}
use Rattle.pf_select.proofs.solving.selections.Given as goal

abbrev pub invariant-cuts : goal.invariant-cuts
invariant-cuts l = AreSelections l.catalogue l.curve.cuts l.sets l.j
