use Rattle.pf_frame.specs.Scratch.{KeepsPlaces}
use Rattle.pf_principal.specs.Testing.{MeetsSteps}
use Rattle.pf_principal.proofs.check.check_principal.Given as goal

abbrev pub invariant-levels : goal.invariant-levels
invariant-levels l = record {
  places : KeepsPlaces l.fn.scratch l.scratch;
  each : MeetsSteps l.graph l.answer l.j;
}
