use Rattle.std.proofs.Common.{◌≡◌, ◌*◌, ◌∷◌, [], length, drop, ap, sym, ◌∙◌, arith}
use Rattle.std.specs.Prelude.{codes}
use Rattle.std.proofs.lemmas.List.{get_or_default}
use Rattle.std.proofs.lemmas.Result.{err_from_is_err_and}
use Rattle.pf_text.specs.Spelling.{line, row_line}
use Rattle.pf_graph.specs.Best.{partition_at}
use Rattle.pf_io.proofs.PrintingLemmas.{adds_then, adds_none_of}
use Rattle.pf_principal.specs.Text.{part_line, steps_text, steps_of, levels_text, levels_rows, principal_text}
use Rattle.pf_principal.proofs.text.print_principal.Goals as goal

pub print_steps-requires-clause-full : goal.print_steps-requires-clause-full
print_steps-requires-clause-full g c = λ j low. (c.requires.fits.partition j low).full

pub print_levels-requires-clause-rows : goal.print_levels-requires-clause-rows
print_levels-requires-clause-rows g c =
    c.requires.fits.split_rows ∙ ap (λ k. k * c.args.graph.now.nodes) (sym c.requires.fits.vector_rows) ∙ ap (λ k. length c.args.vectors.now * k) (sym c.vertices-nodes.ensures.value)

pub returns-in_err-word : goal.returns-in_err-word
unfolding principal_text
returns-in_err-word g c =
    let p = err_from_is_err_and c.from_residual.result c.from_residual.ensures.1 in
    rw p.1 (adds_none_of {T = Unit {0}} ((row_line (codes "k") (length c.args.levels.now ∷ []) []) ∷ (part_line 0 (partition_at c.args.partitions.now 0)) ∷ (steps_text 0 (steps_of c.args.graph.now (partition_at c.args.partitions.now 0) c.args.levels.now (drop 1 c.args.partitions.now))) ∷ (levels_text 0 (levels_rows c.args.graph.now.nodes c.args.vectors.now c.args.splits.now)) ∷ (line (codes "end" ∷ [])) ∷ [])
    c.in_err-word.ensures)

pub returns-in_err-print_row : goal.returns-in_err-print_row
unfolding principal_text
returns-in_err-print_row g c =
    let p = err_from_is_err_and c.from_residual-in_err-print_row.result c.from_residual-in_err-print_row.ensures.1 in
    rw p.1 (adds_none_of {T = Unit {0}} ((part_line 0 (partition_at c.args.partitions.now 0)) ∷ (steps_text 0 (steps_of c.args.graph.now (partition_at c.args.partitions.now 0) c.args.levels.now (drop 1 c.args.partitions.now))) ∷ (levels_text 0 (levels_rows c.args.graph.now.nodes c.args.vectors.now c.args.splits.now)) ∷ (line (codes "end" ∷ [])) ∷ [])
    (adds_then c.in_ok-word.ensures c.in_err-print_row.ensures))

pub returns-in_err-print_labels : goal.returns-in_err-print_labels
unfolding principal_text
returns-in_err-print_labels g c =
    let p = err_from_is_err_and c.from_residual-in_err-print_labels.result c.from_residual-in_err-print_labels.ensures.1 in
    let count = c.requires.fits.count in
    let first : c.labels.result.now ≡ partition_at c.args.partitions.now 0 =
    c.labels.ensures.value ∙ c.index-partitions-0.is ∙ get_or_default c.args.partitions.now 0 c.index-partitions-0.result [] (omega (arith, count)) in
    rw p.1 (adds_none_of {T = Unit {0}} ((steps_text 0 (steps_of c.args.graph.now (partition_at c.args.partitions.now 0) c.args.levels.now (drop 1 c.args.partitions.now))) ∷ (levels_text 0 (levels_rows c.args.graph.now.nodes c.args.vectors.now c.args.splits.now)) ∷ (line (codes "end" ∷ [])) ∷ [])
    (adds_then (adds_then c.in_ok-word.ensures c.in_ok-print_row.ensures) (rw first at c.in_err-print_labels.ensures)))

pub returns-in_err-print_steps : goal.returns-in_err-print_steps
unfolding principal_text
returns-in_err-print_steps g c =
    let p = err_from_is_err_and c.from_residual-in_err-print_steps.result c.from_residual-in_err-print_steps.ensures.1 in
    let count = c.requires.fits.count in
    let first : c.labels.result.now ≡ partition_at c.args.partitions.now 0 =
    c.labels.ensures.value ∙ c.index-partitions-0.is ∙ get_or_default c.args.partitions.now 0 c.index-partitions-0.result [] (omega (arith, count)) in
    rw p.1 (adds_none_of {T = Unit {0}} ((levels_text 0 (levels_rows c.args.graph.now.nodes c.args.vectors.now c.args.splits.now)) ∷ (line (codes "end" ∷ [])) ∷ [])
    (adds_then (adds_then (adds_then c.in_ok-word.ensures c.in_ok-print_row.ensures) (rw first at c.in_ok-print_labels.ensures)) c.in_err-print_steps.ensures))

pub returns-in_err-print_levels : goal.returns-in_err-print_levels
unfolding principal_text
returns-in_err-print_levels g c =
    let p = err_from_is_err_and c.from_residual-in_err-print_levels.result c.from_residual-in_err-print_levels.ensures.1 in
    let count = c.requires.fits.count in
    let first : c.labels.result.now ≡ partition_at c.args.partitions.now 0 =
    c.labels.ensures.value ∙ c.index-partitions-0.is ∙ get_or_default c.args.partitions.now 0 c.index-partitions-0.result [] (omega (arith, count)) in
    rw p.1 (adds_none_of {T = Unit {0}} ((line (codes "end" ∷ [])) ∷ [])
    (adds_then (adds_then (adds_then (adds_then c.in_ok-word.ensures c.in_ok-print_row.ensures) (rw first at c.in_ok-print_labels.ensures)) c.in_ok-print_steps.ensures) (rw c.vertices-nodes.ensures.value at c.in_err-print_levels.ensures)))

pub returns : goal.returns
unfolding principal_text
returns g c =
    let count = c.requires.fits.count in
    let first : c.labels.result.now ≡ partition_at c.args.partitions.now 0 =
    c.labels.ensures.value ∙ c.index-partitions-0.is ∙ get_or_default c.args.partitions.now 0 c.index-partitions-0.result [] (omega (arith, count)) in
    adds_then (adds_then (adds_then (adds_then (adds_then c.in_ok-word.ensures c.in_ok-print_row.ensures) (rw first at c.in_ok-print_labels.ensures)) c.in_ok-print_steps.ensures) (rw c.vertices-nodes.ensures.value at c.in_ok-print_levels.ensures)) c.word-2.ensures
