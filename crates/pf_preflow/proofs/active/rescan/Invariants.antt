use Rattle.std.proofs.Common.{◌≡◌, ℕ, ◌<◌, ◌≤◌, length}
use Rattle.pf_preflow.specs.Engine.{IsActiveAt}
use Rattle.pf_preflow.proofs.active.rescan.Given as goal

abbrev pub invariant-nodes : goal.invariant-nodes
invariant-nodes l = record {
  nodes : l.queue.nodes ≡ length l.excess;
  most : l.first ≤ l.nodes;
  active : l.first < l.nodes → IsActiveAt l.s l.t l.excess l.first;
  none : l.nodes ≤ l.first → (u : ℕ) → u < l.v → IsActiveAt l.s l.t l.excess u → ⊥;
}
