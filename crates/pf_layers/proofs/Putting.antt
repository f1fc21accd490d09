-- A number is put place by place.
use Rattle.std.proofs.Common.{◌≡◌, ℕ, ◌<◌, ◌≤◌, List, length, Bool, true, false}
use Rattle.std.specs.Prelude.{ℤ}
use Rattle.pf_model.specs.Cut.{at_arc}

-- in the first places
pub record IsPutTo (test : ℕ → Bool) (number : ℤ) (old new : List ℤ) (count : ℕ) : Type 0 where
  pub full : length new ≡ length old
  pub put : (v : ℕ) → v < count → test v ≡ true → at_arc new v ≡ number
  pub kept : (v : ℕ) → v < count → test v ≡ false → at_arc new v ≡ at_arc old v
  pub rest : (v : ℕ) → count ≤ v → at_arc new v ≡ at_arc old v
