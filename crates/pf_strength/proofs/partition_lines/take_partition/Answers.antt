use Rattle.std.proofs.Common.{List, ℕ, ◌++◌, length, sym, ap, ◌∙◌}
use Rattle.std.proofs.lemmas.Result.{err_from_is_err_and}
use Rattle.pf_text.specs.Spelling.{label_line}
use Rattle.pf_graph.proofs.LineLabels.{labels_of_partition}
use Rattle.pf_strength.proofs.PartitionLemmas.{same_rule, rule_of_length}
use Rattle.pf_strength.proofs.partition_lines.take_partition.Goals as goal

pub returns-in_err-labels-clause-found : goal.returns-in_err-labels-clause-found
returns-in_err-labels-clause-found c = λ labels rest rule there.
    let p = err_from_is_err_and c.from_residual.result c.from_residual.ensures.1 in
    rw (p.1, p.2) (c.in_err-labels.ensures.found labels rest (labels_of_partition c.args.vertices labels rule) there)

pub returns-in_err-partition-clause-found : goal.returns-in_err-partition-clause-found
returns-in_err-partition-clause-found c = λ labels rest rule there.
    let p = err_from_is_err_and c.from_residual-in_err-partition.result c.from_residual-in_err-partition.ensures.1 in
    let f = c.in_ok-labels.ensures.found labels rest (labels_of_partition c.args.vertices labels rule) there in
    rw (p.1, p.2) (c.in_err-partition.ensures.refused (same_rule c.args.vertices c.deref.result.now labels (c.deref.ensures.value ∙ f.0) rule))

pub returns-clause-taken : goal.returns-clause-taken
returns-clause-taken c =
    c.in_ok-labels.ensures.taken
    ∙ ap (λ (l : List ℕ). label_line c.args.word.now c.args.indices.now l ++ c.take_labels.new.text) (sym (c.in_ok-partition.ensures.same ∙ c.deref.ensures.value))

pub returns-clause-shape : goal.returns-clause-shape
returns-clause-shape c =
    rule_of_length c.args.vertices c.deref.result.now c.in_ok-partition.partition (ap length c.deref.ensures.value ∙ c.in_ok-labels.ensures.shape.full) c.in_ok-partition.ensures.rule

pub returns-clause-found : goal.returns-clause-found
returns-clause-found c = λ labels rest rule there.
    let f = c.in_ok-labels.ensures.found labels rest (labels_of_partition c.args.vertices labels rule) there in
    (c.in_ok-partition.ensures.same ∙ c.deref.ensures.value ∙ f.0, f.1)
