use Rattle.std.proofs.Common.{ℕ, List, subst}
use Rattle.pf_graph.specs.Labels.{IsPartitionOf}
use Rattle.pf_strength.proofs.PartitionLemmas.{same_list}
use Rattle.pf_principal.proofs.family.copy.Goals as goal

pub returns : goal.returns
returns c =
    let e = c.labels.ensures.value in
    let P : List ℕ → Type 0 = λ l. IsPartitionOf l c.in_ok-second.second in
    same_list c.args.partition.now c.in_ok-second.second c.labels.ensures.partition (subst P e c.in_ok-second.ensures)
