use Rattle.std.proofs.Common.{◌≡◌, [], ◌++◌, true, sym, ap, ◌∙◌}
use Rattle.std.specs.Prelude.{codes}
use Rattle.std.proofs.lemmas.Result.{err_from_is_err_and}
use Rattle.pf_text.specs.Spelling.{label_line}
use Rattle.pf_graph.specs.Labels.{parts}
use Rattle.pf_strength.proofs.PartitionLemmas.{parts_count, parts_behind, both_lines, both_taken}
use Rattle.pf_strength.proofs.partition_lines.take_counted_partition.Goals as goal

pub returns-in_err-count-clause-found : goal.returns-in_err-count-clause-found
returns-in_err-count-clause-found c = λ labels rest rule there.
    absurd (c.in_err-count.ensures.found (parts labels) (label_line (codes "s") [] labels ++ rest) (parts_count c.args.vertices labels c.requires.some rule) (parts_behind labels rest)
    (there ∙ both_lines labels rest))

pub returns-in_err-partition-clause-found : goal.returns-in_err-partition-clause-found
returns-in_err-partition-clause-found c = λ labels rest rule there.
    let p = err_from_is_err_and c.from_residual-in_err-partition.result c.from_residual-in_err-partition.ensures.1 in
    let k = c.in_ok-count.ensures.found (parts labels) (label_line (codes "s") [] labels ++ rest) (parts_count c.args.vertices labels c.requires.some rule) (parts_behind labels rest)
    (there ∙ both_lines labels rest) in
    rw (p.1, p.2) (c.in_err-partition.ensures.found labels rest rule k.1)

pub returns-then-not-has_parts-clause-found : goal.returns-then-not-has_parts-clause-found
returns-then-not-has_parts-clause-found c = λ labels rest rule there.
    let k = c.in_ok-count.ensures.found (parts labels) (label_line (codes "s") [] labels ++ rest) (parts_count c.args.vertices labels c.requires.some rule) (parts_behind labels rest)
    (there ∙ both_lines labels rest) in
    let f = c.in_ok-partition.ensures.found labels rest rule k.1 in
    let told : c.has_parts.result ≡ true = c.has_parts.ensures.1 (k.0 ∙ ap parts (sym f.0)) in
    let some = c.if-not-has_parts.true in
    absurd cc

pub returns-clause-taken : goal.returns-clause-taken
returns-clause-taken c =
    both_taken c.in_ok-partition.partition c.args.text.now c.take_count.new.text c.take_partition.new.text c.in_ok-count.count c.in_ok-count.ensures.taken
    c.in_ok-partition.ensures.taken (c.has_parts.ensures.0 c.if-not-has_parts.false)

pub returns-clause-found : goal.returns-clause-found
returns-clause-found c = λ labels rest rule there.
    let k = c.in_ok-count.ensures.found (parts labels) (label_line (codes "s") [] labels ++ rest) (parts_count c.args.vertices labels c.requires.some rule) (parts_behind labels rest)
    (there ∙ both_lines labels rest) in
    c.in_ok-partition.ensures.found labels rest rule k.1
