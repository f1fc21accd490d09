use Rattle.std.proofs.Common.{ℕ, ◌<◌}
use Rattle.pf_share.specs.Tests.{IsLevel}
use Rattle.pf_share.proofs.checking.are_levels.Given as goal

abbrev pub invariant-levels : goal.invariant-levels
invariant-levels l = (k : ℕ) → k < l.j → IsLevel l.levels k
