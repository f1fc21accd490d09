-- Calls one after another, and their counts of faults.
use Rattle.std.proofs.Common.{ℕ, ◌≤◌, inl, inr, arith}
use Rattle.pf_io.specs.Faults.{Rose}

-- a count that rose later rose
pub Rose-earlier : (before mid now : ℕ) → before ≤ mid → Rose mid now → Rose before now
Rose-earlier before mid now p (inl q) = inl (omega arith)
Rose-earlier before mid now p (inr q) = inr q
