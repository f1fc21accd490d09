use Rattle.std.proofs.Common.{◌≡◌, length}
use Rattle.pf_preflow.proofs.active.take_active.Given as goal

abbrev pub invariant-first : goal.invariant-first
invariant-first l = l.queue.nodes ≡ length l.excess

abbrev pub decreases-first : goal.decreases-first
decreases-first l = l.queue.count
