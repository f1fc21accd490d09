use Rattle.std.proofs.Common.{ℕ, ◌<◌}
use Rattle.pf_frame.specs.Scratch.{KeepsPlaces}
use Rattle.pf_cert.specs.Parts.{CertifiesCut}
use Rattle.pf_cert.proofs.check.certifies_cuts.Given as goal

-- the cuts before the cut i are certified
abbrev pub invariant-cuts : goal.invariant-cuts
invariant-cuts l = record {
  each : (k : ℕ) → k < l.i → CertifiesCut l.net l.curve.points l.curve.cuts l.curve.flows k;
  places : KeepsPlaces l.fn.scratch l.scratch;
}
