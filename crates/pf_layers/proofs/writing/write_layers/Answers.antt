use Rattle.std.proofs.Common.{◌∷◌, [], length}
use Rattle.std.specs.Prelude.{codes}
use Rattle.std.proofs.lemmas.Result.{err_from_is_err_and}
use Rattle.pf_io.proofs.PrintingLemmas.{adds_then, adds_none_of}
use Rattle.pf_text.specs.Spelling.{line, row_line}
use Rattle.pf_layers.specs.Text.{levels_text, layers_text}
use Rattle.pf_layers.proofs.writing.write_layers.Goals as goal

pub returns-in_err-word : goal.returns-in_err-word
unfolding layers_text
returns-in_err-word g c =
    let p = err_from_is_err_and c.from_residual.result c.from_residual.ensures.1 in
    let a = c.args.answer.now in
    rw p.1 (adds_none_of {T = Unit {0}} (row_line (codes "k") (length a.levels ∷ []) [] ∷ levels_text 0 a.levels ∷ row_line (codes "m") [] a.layers ∷ line (codes "end" ∷ []) ∷ []) c.in_err-word.ensures)

pub returns-in_err-print_row : goal.returns-in_err-print_row
unfolding layers_text
returns-in_err-print_row g c =
    let p = err_from_is_err_and c.from_residual-in_err-print_row.result c.from_residual-in_err-print_row.ensures.1 in
    let a = c.args.answer.now in
    rw p.1 (adds_none_of {T = Unit {0}} (levels_text 0 a.levels ∷ row_line (codes "m") [] a.layers ∷ line (codes "end" ∷ []) ∷ [])
    (adds_then c.in_ok-word.ensures (rw (c.get-levels.ensures, c.levels.ensures) at c.in_err-print_row.ensures)))

pub returns-in_err-print_levels : goal.returns-in_err-print_levels
unfolding layers_text
returns-in_err-print_levels g c =
    let p = err_from_is_err_and c.from_residual-in_err-print_levels.result c.from_residual-in_err-print_levels.ensures.1 in
    let a = c.args.answer.now in
    rw p.1 (adds_none_of {T = Unit {0}} (row_line (codes "m") [] a.layers ∷ line (codes "end" ∷ []) ∷ [])
    (adds_then (adds_then c.in_ok-word.ensures (rw (c.get-levels.ensures, c.levels.ensures) at c.in_ok-print_row.ensures)) (rw (c.get-levels.ensures, c.levels.ensures) at c.in_err-print_levels.ensures)))

pub returns-in_err-print_row-2 : goal.returns-in_err-print_row-2
unfolding layers_text
returns-in_err-print_row-2 g c =
    let p = err_from_is_err_and c.from_residual-in_err-print_row-2.result c.from_residual-in_err-print_row-2.ensures.1 in
    rw p.1 (adds_none_of {T = Unit {0}} (line (codes "end" ∷ []) ∷ [])
    (adds_then (adds_then (adds_then c.in_ok-word.ensures (rw (c.get-levels.ensures, c.levels.ensures) at c.in_ok-print_row.ensures))
    (rw (c.get-levels.ensures, c.levels.ensures) at c.in_ok-print_levels.ensures)) (rw (c.get-numbers.ensures, c.layer.ensures) at c.in_err-print_row-2.ensures)))

pub returns : goal.returns
unfolding layers_text
returns g c =
    adds_then (adds_then (adds_then (adds_then c.in_ok-word.ensures (rw (c.get-levels.ensures, c.levels.ensures) at c.in_ok-print_row.ensures))
    (rw (c.get-levels.ensures, c.levels.ensures) at c.in_ok-print_levels.ensures)) (rw (c.get-numbers.ensures, c.layer.ensures) at c.in_ok-print_row-2.ensures)) c.word-2.ensures
