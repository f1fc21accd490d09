use Rattle.std.proofs.Common.{ℕ, ◌+◌, ◌<◌}
use Rattle.pf_cert.proofs.Neighbours.{RisesAt}
use Rattle.pf_cert.proofs.points.rise.Given as goal

-- the points before the point i rise
abbrev pub invariant-points : goal.invariant-points
invariant-points l = (k : ℕ) → k + 1 < l.i → RisesAt l.points k
