use Rattle.std.proofs.Common.{◌≡◌, true, sym, ◌∙◌}
use Rattle.std.proofs.lemmas.Result.{err_from_is_err_and}
use Rattle.pf_strength.proofs.PartitionLemmas.{same_list}
use Rattle.pf_strength.proofs.partition_lines.partition_of.Goals as goal

pub returns-in_err-partition-clause-refused : goal.returns-in_err-partition-clause-refused
returns-in_err-partition-clause-refused c =
    let p = err_from_is_err_and c.from_residual.result c.from_residual.ensures.1 in
    rw (p.1, p.2) (λ rule. tt)

pub returns-then-not-are_same-clause-refused : goal.returns-then-not-are_same-clause-refused
returns-then-not-are_same-clause-refused c = λ rule.
    let same = same_list c.args.labels.now c.in_ok-partition.partition rule c.in_ok-partition.ensures in
    let told : c.are_same.result ≡ true = c.are_same.ensures.1 (c.labels.ensures.value ∙ same) in
    let some = c.if-not-are_same.true in
    absurd cc

pub returns-clause-same : goal.returns-clause-same
returns-clause-same c = sym c.labels.ensures.value ∙ c.are_same.ensures.0 c.if-not-are_same.false

pub returns-clause-rule : goal.returns-clause-rule
returns-clause-rule c = c.in_ok-partition.ensures.partition
