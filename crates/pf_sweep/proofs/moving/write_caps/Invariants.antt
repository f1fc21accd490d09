use Rattle.pf_sweep.specs.Moving.{caps_of}
use Rattle.pf_sweep.proofs.Onward.{IsWritten}
use Rattle.pf_sweep.proofs.moving.write_caps.Given as goal

abbrev pub invariant-each : goal.invariant-each
invariant-each l = IsWritten (caps_of l.net l.at.unit l.at.p) l.caps l.i
