use Rattle.std.proofs.Common.{◌≡◌, take}
use Rattle.pf_par.specs.Outline.{values_of}
use Rattle.pf_par.proofs.reading_curve.values_agree.Given as goal

abbrev pub invariant-flows : goal.invariant-flows
invariant-flows l = values_of l.net (take l.j l.flows) ≡ take l.j l.values
