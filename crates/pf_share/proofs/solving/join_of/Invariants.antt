use Rattle.std.proofs.Common.{◌≡◌, ℕ, ◌<◌, false}
use Rattle.pf_model.specs.Cut.{has}
use Rattle.pf_model.specs.Curve.{cut_at}
use Rattle.pf_share.proofs.solving.join_of.Given as goal

abbrev pub invariant-cuts : goal.invariant-cuts
invariant-cuts l = (i : ℕ) → i < l.i → has (cut_at l.curve.cuts i) l.v ≡ false
