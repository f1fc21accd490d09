use Rattle.pf_cert.proofs.Neighbours.{HaveFallen}
use Rattle.pf_cert.proofs.cuts.slopes_fall.Given as goal

abbrev pub invariant-cuts : goal.invariant-cuts
invariant-cuts l = HaveFallen l.net l.curve.cuts l.before l.i
