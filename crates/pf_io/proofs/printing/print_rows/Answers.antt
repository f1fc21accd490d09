use Rattle.std.proofs.Common.{◌+◌, ◌<◌, ◌≤◌, length, arith}
use Rattle.std.proofs.lemmas.List.{at_drop_all}
use Rattle.std.proofs.lemmas.Result.{err_from_is_err_and}
use Rattle.pf_text.specs.Spelling.{table_text}
use Rattle.pf_io.proofs.PrintedLemmas.{printed_begin_by, printed_more, printed_stopped, printed_end}
use Rattle.pf_io.proofs.Tables.{table_text_at, table_text_from}
use Rattle.pf_io.proofs.printing.print_rows.Goals as goal

pub rows-init : goal.rows-init
rows-init g c = printed_begin_by c.args.out.now _ _ c.requires.usable (table_text_from c.args.word.now c.args.first c.args.table.now)

pub rows-preserved : goal.rows-preserved
rows-preserved g c =
    let low : c.rows.j < length c.args.table.now = omega (arith, c.rows-j-end.ensures) in
    printed_more c.rows.invariant (table_text_at c.args.word.now c.args.first c.rows.j c.args.table.now low) (rw c.row.ensures at c.in_ok-print_row.ensures)

pub returns-in_err-print_row : goal.returns-in_err-print_row
returns-in_err-print_row g c =
    let p = err_from_is_err_and c.from_residual.result c.from_residual.ensures.1 in
    let low : c.rows.j < length c.args.table.now = omega (arith, c.rows-j-end.ensures) in
    rw p.1 (printed_stopped _ c.rows.invariant (table_text_at c.args.word.now c.args.first c.rows.j c.args.table.now low) (rw c.row.ensures at c.in_err-print_row.ensures))

pub returns : goal.returns
returns g c =
    let all : length c.args.table.now ≤ c.rows.j = omega (arith, c.rows-j-end.ensures) in
    printed_end c.rows.invariant (at_drop_all (table_text c.args.word.now (c.args.first + c.rows.j)) c.args.table.now c.rows.j all)
