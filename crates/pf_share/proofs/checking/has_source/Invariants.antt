use Rattle.std.proofs.Common.{ℕ, ◌<◌}
use Rattle.pf_share.specs.Tests.{IsSourceOf}
use Rattle.pf_share.proofs.checking.has_source.Given as goal

abbrev pub invariant-nodes : goal.invariant-nodes
invariant-nodes l = (v : ℕ) → v < l.v → IsSourceOf l.sharing l.answer.groups l.group v → ⊥
