use Rattle.std.proofs.Common.{◌∷◌, []}
use Rattle.std.specs.Prelude.{codes}
use Rattle.std.proofs.lemmas.Result.{err_from_is_err_and}
use Rattle.pf_text.specs.Spelling.{line, row_line, label_line}
use Rattle.pf_io.proofs.PrintingLemmas.{adds_then, adds_none_of}
use Rattle.pf_trees.proofs.writing.print_blocked.Goals as goal

pub returns-in_err-word : goal.returns-in_err-word
returns-in_err-word g c =
    let p = err_from_is_err_and c.from_residual.result c.from_residual.ensures.1 in
    rw p.1 (adds_none_of {T = Unit {0}} (label_line (codes "s") [] c.args.labels.now ∷ row_line (codes "c") (c.args.count ∷ []) [] ∷ line (codes "end" ∷ []) ∷ []) c.in_err-word.ensures)

pub returns-in_err-print_labels : goal.returns-in_err-print_labels
returns-in_err-print_labels g c =
    let p = err_from_is_err_and c.from_residual-in_err-print_labels.result c.from_residual-in_err-print_labels.ensures.1 in
    rw p.1 (adds_none_of {T = Unit {0}} (row_line (codes "c") (c.args.count ∷ []) [] ∷ line (codes "end" ∷ []) ∷ []) (adds_then c.in_ok-word.ensures c.in_err-print_labels.ensures))

pub returns-in_err-print_row : goal.returns-in_err-print_row
returns-in_err-print_row g c =
    let p = err_from_is_err_and c.from_residual-in_err-print_row.result c.from_residual-in_err-print_row.ensures.1 in
    rw p.1 (adds_none_of {T = Unit {0}} (line (codes "end" ∷ []) ∷ []) (adds_then (adds_then c.in_ok-word.ensures c.in_ok-print_labels.ensures) c.in_err-print_row.ensures))

pub returns : goal.returns
returns g c = adds_then (adds_then (adds_then c.in_ok-word.ensures c.in_ok-print_labels.ensures) c.in_ok-print_row.ensures) c.word-2.ensures
