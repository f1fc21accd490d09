use Rattle.std.proofs.Common.{ℕ, ◌<◌}
use Rattle.pf_carry.specs.Trimming.{IsShortAt}
use Rattle.pf_carry.proofs.trimming.first_short.Given as goal

abbrev pub invariant-nodes : goal.invariant-nodes
invariant-nodes l = (u : ℕ) → u < l.v → IsShortAt l.s l.t l.sums u → ⊥
