use Rattle.std.proofs.Common.{◌∷◌, [], ◌-◌, length}
use Rattle.std.specs.Prelude.{codes}
use Rattle.std.specs.Fmt.{decimal}
use Rattle.std.proofs.lemmas.Result.{err_from_is_err_and}
use Rattle.pf_text.specs.Spelling.{line}
use Rattle.pf_io.proofs.PrintingLemmas.{adds_then, adds_none_of}
use Rattle.pf_sweep.specs.Text.{rows_text, sweep_text}
use Rattle.pf_sweep.proofs.writing.write_sweep.Goals as goal

pub returns-in_err-word : goal.returns-in_err-word
unfolding sweep_text
returns-in_err-word g c =
    let p = err_from_is_err_and c.from_residual.result c.from_residual.ensures.1 in
    rw p.1 (adds_none_of {T = Unit {0}} (line (codes "k" ∷ decimal (length c.args.rows.now - 1) ∷ []) ∷ rows_text 0 c.args.rows.now ∷ line (codes "end" ∷ []) ∷ []) c.in_err-word.ensures)

pub returns-in_err-print_row : goal.returns-in_err-print_row
unfolding sweep_text
returns-in_err-print_row g c =
    let p = err_from_is_err_and c.from_residual-in_err-print_row.result c.from_residual-in_err-print_row.ensures.1 in
    rw p.1 (adds_none_of {T = Unit {0}} (rows_text 0 c.args.rows.now ∷ line (codes "end" ∷ []) ∷ []) (adds_then c.in_ok-word.ensures c.in_err-print_row.ensures))

pub returns-in_err-print_rows : goal.returns-in_err-print_rows
unfolding sweep_text
returns-in_err-print_rows g c =
    let p = err_from_is_err_and c.from_residual-in_err-print_rows.result c.from_residual-in_err-print_rows.ensures.1 in
    rw p.1 (adds_none_of {T = Unit {0}} (line (codes "end" ∷ []) ∷ []) (adds_then (adds_then c.in_ok-word.ensures c.in_ok-print_row.ensures) c.in_err-print_rows.ensures))

pub returns : goal.returns
unfolding sweep_text
returns g c = adds_then (adds_then (adds_then c.in_ok-word.ensures c.in_ok-print_row.ensures) c.in_ok-print_rows.ensures) c.word-2.ensures
