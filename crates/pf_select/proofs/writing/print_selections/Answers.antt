use Rattle.std.proofs.Common.{drop, arith}
use Rattle.std.proofs.lemmas.Result.{err_from_is_err_and}
use Rattle.pf_io.proofs.PrintingLemmas.{adds_then, adds_stopped}
use Rattle.pf_select.specs.Problem.{selection_at}
use Rattle.pf_select.specs.Text.{changes_text}
use Rattle.pf_select.proofs.ChangeTexts.{selections_text_is}
use Rattle.pf_select.proofs.writing.print_selections.Goals as goal

pub returns-in_err-print_side_row : goal.returns-in_err-print_side_row
returns-in_err-print_side_row g c =
    let p = err_from_is_err_and c.from_residual.result c.from_residual.ensures.1 in
    let a = c.args.answer.now in
    let count = c.requires.shape.count in
    let whole = selections_text_is c.args.catalogue.now a.prices a.selections (omega (arith, count)) in
    rw (p.1, ← whole) (adds_stopped (changes_text c.args.catalogue.now 0 (selection_at a.selections 0) a.prices (drop 1 a.selections))
    (rw c.selection.ensures at c.in_err-print_side_row.ensures))

pub returns : goal.returns
returns g c =
    let a = c.args.answer.now in
    let count = c.requires.shape.count in
    let whole = selections_text_is c.args.catalogue.now a.prices a.selections (omega (arith, count)) in
    rw (← whole) (adds_then (rw c.selection.ensures at c.in_ok-print_side_row.ensures) c.print_changes.ensures)
