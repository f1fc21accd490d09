use Rattle.std.proofs.Common.{◌∷◌, [], length}
use Rattle.std.specs.Prelude.{codes}
use Rattle.std.proofs.lemmas.Result.{err_from_is_err_and}
use Rattle.pf_io.proofs.PrintingLemmas.{adds_then, adds_none_of}
use Rattle.pf_text.specs.Spelling.{line, row_line}
use Rattle.pf_select.specs.Text.{selections_text, charges_text, schedule_text}
use Rattle.pf_select.proofs.writing.write_schedule.Goals as goal

pub returns-in_err-word : goal.returns-in_err-word
unfolding schedule_text
returns-in_err-word g c =
    let p = err_from_is_err_and c.from_residual.result c.from_residual.ensures.1 in
    let a = c.args.answer.now in
    rw p.1 (adds_none_of {T = Unit {0}} (row_line (codes "k") (length a.prices ∷ []) [] ∷ selections_text c.args.catalogue.now a.prices a.selections ∷ charges_text 0 a.charges ∷ line (codes "end" ∷ []) ∷ []) c.in_err-word.ensures)

pub returns-in_err-print_row : goal.returns-in_err-print_row
unfolding schedule_text
returns-in_err-print_row g c =
    let p = err_from_is_err_and c.from_residual-in_err-print_row.result c.from_residual-in_err-print_row.ensures.1 in
    let a = c.args.answer.now in
    rw p.1 (adds_none_of {T = Unit {0}} (selections_text c.args.catalogue.now a.prices a.selections ∷ charges_text 0 a.charges ∷ line (codes "end" ∷ []) ∷ []) (adds_then c.in_ok-word.ensures (rw (c.get-count.ensures, c.prices.ensures) at c.in_err-print_row.ensures)))

pub returns-in_err-print_selections : goal.returns-in_err-print_selections
unfolding schedule_text
returns-in_err-print_selections g c =
    let p = err_from_is_err_and c.from_residual-in_err-print_selections.result c.from_residual-in_err-print_selections.ensures.1 in
    let a = c.args.answer.now in
    rw p.1 (adds_none_of {T = Unit {0}} (charges_text 0 a.charges ∷ line (codes "end" ∷ []) ∷ []) (adds_then (adds_then c.in_ok-word.ensures (rw (c.get-count.ensures, c.prices.ensures) at c.in_ok-print_row.ensures)) c.in_err-print_selections.ensures))

pub returns-in_err-print_charges : goal.returns-in_err-print_charges
unfolding schedule_text
returns-in_err-print_charges g c =
    let p = err_from_is_err_and c.from_residual-in_err-print_charges.result c.from_residual-in_err-print_charges.ensures.1 in
    let a = c.args.answer.now in
    rw p.1 (adds_none_of {T = Unit {0}} (line (codes "end" ∷ []) ∷ []) (adds_then (adds_then (adds_then c.in_ok-word.ensures (rw (c.get-count.ensures, c.prices.ensures) at c.in_ok-print_row.ensures)) c.in_ok-print_selections.ensures) (rw c.charges.ensures at c.in_err-print_charges.ensures)))

pub returns : goal.returns
unfolding schedule_text
returns g c =
    adds_then (adds_then (adds_then (adds_then c.in_ok-word.ensures (rw (c.get-count.ensures, c.prices.ensures) at c.in_ok-print_row.ensures)) c.in_ok-print_selections.ensures) (rw c.charges.ensures at c.in_ok-print_charges.ensures)) c.word-2.ensures
