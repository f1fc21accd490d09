use Rattle.std.proofs.Common.{ℕ, List, refl, ◌∙◌, subst}
use Rattle.pf_graph.specs.Labels.{IsPartitionOf}
use Rattle.pf_strength.proofs.Steps.{same_labels}
use Rattle.pf_reinforce.specs.Reinforcement.{IsBlocked}
use Rattle.pf_reinforce.proofs.reinforcement.reinforce.Goals as goal

pub returns-then-is_blocked : goal.returns-then-is_blocked
returns-then-is_blocked c =
    let b = c.if-is_blocked.ensures.blocked refl in
    let P : List ℕ → Type 0 = λ l. IsPartitionOf l c.in_ok-parts.parts in
    let of = subst P (c.labels.ensures.value ∙ c.partition.ensures) c.in_ok-parts.ensures in
    subst (λ (l : List ℕ). IsBlocked c.args.graph.now c.args.level.now l) (same_labels _ _ _ b.partition of) b
