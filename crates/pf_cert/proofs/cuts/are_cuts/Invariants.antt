use Rattle.std.proofs.Common.{ℕ, ◌<◌}
use Rattle.pf_model.specs.Network.{IsNetworkCut}
use Rattle.pf_model.specs.Curve.{cut_at}
use Rattle.pf_cert.proofs.cuts.are_cuts.Given as goal

abbrev pub invariant-cuts : goal.invariant-cuts
invariant-cuts l = (k : ℕ) → k < l.i → IsNetworkCut l.net (cut_at l.curve.cuts k)
