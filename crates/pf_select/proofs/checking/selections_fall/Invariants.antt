use Rattle.pf_select.specs.Tests.{SelectionsFall}
use Rattle.pf_select.proofs.checking.selections_fall.Given as goal

abbrev pub invariant-selections : goal.invariant-selections
invariant-selections l = SelectionsFall l.answer.selections l.j
