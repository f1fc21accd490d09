use Rattle.std.proofs.Common.{◌<◌, ◌≤◌, length, arith}
use Rattle.std.proofs.lemmas.List.{at_drop_all}
use Rattle.std.proofs.lemmas.Result.{err_from_is_err_and}
use Rattle.pf_sweep.specs.Text.{rows_text}
use Rattle.pf_sweep.proofs.Texts.{rows_text_at}
use Rattle.pf_io.proofs.PrintedLemmas.{printed_begin, printed_more, printed_stopped, printed_end}
use Rattle.pf_sweep.proofs.writing.print_rows.Goals as goal

pub rows-init : goal.rows-init
rows-init g c = printed_begin c.args.out.now _ c.requires

pub rows-preserved : goal.rows-preserved
rows-preserved g c =
    let low : c.rows.j < length c.args.rows.now = omega arith in
    printed_more c.rows.invariant (rows_text_at c.rows.j c.args.rows.now c.index-rows-j.result low) (rw c.index-rows-j.is at c.in_ok-print_one.ensures)

pub returns-in_err-print_one : goal.returns-in_err-print_one
returns-in_err-print_one g c =
    let p = err_from_is_err_and c.from_residual.result c.from_residual.ensures.1 in
    let low : c.rows.j < length c.args.rows.now = omega arith in
    rw p.1 (printed_stopped _ c.rows.invariant (rows_text_at c.rows.j c.args.rows.now c.index-rows-j.result low) (rw c.index-rows-j.is at c.in_err-print_one.ensures))

pub returns : goal.returns
returns g c =
    let all : length c.args.rows.now ≤ c.rows.j = omega arith in
    printed_end c.rows.invariant (at_drop_all (rows_text c.rows.j) c.args.rows.now c.rows.j all)
