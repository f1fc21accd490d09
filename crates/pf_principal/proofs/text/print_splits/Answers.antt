use Rattle.std.proofs.Common.{drop, take, arith, ap, sym, ◌∙◌}
use Rattle.std.proofs.lemmas.List.{drop_all}
use Rattle.std.proofs.lemmas.Result.{err_from_is_err_and}
use Rattle.pf_io.proofs.PrintedLemmas.{printed_begin, printed_more, printed_stopped, printed_end}
use Rattle.pf_principal.specs.Text.{splits_text}
use Rattle.pf_principal.proofs.Printed.{split_at, row_of_part, length_part}
use Rattle.pf_principal.proofs.text.print_splits.Goals as goal

pub roots-init : goal.roots-init
roots-init g c = printed_begin c.args.out.now _ c.requires.usable

pub roots-preserved : goal.roots-preserved
roots-preserved g c =
    let rows = take c.args.count (drop c.args.first c.args.splits.now) in
    let full = length_part c.args.first c.args.count c.args.splits.now c.requires.rows in
    let row = c.row.ensures ∙ sym (row_of_part c.args.first c.args.count c.args.splits.now c.roots.r c.roots-test.true) in
    printed_more c.roots.invariant (split_at c.args.j c.roots.r rows (omega (arith, full))) (rw row at c.in_ok-print_row.ensures)

pub returns-in_err-print_row : goal.returns-in_err-print_row
returns-in_err-print_row g c =
    let p = err_from_is_err_and c.from_residual.result c.from_residual.ensures.1 in
    let rows = take c.args.count (drop c.args.first c.args.splits.now) in
    let full = length_part c.args.first c.args.count c.args.splits.now c.requires.rows in
    let row = c.row.ensures ∙ sym (row_of_part c.args.first c.args.count c.args.splits.now c.roots.r c.roots-test.true) in
    rw p.1 (printed_stopped _ c.roots.invariant (split_at c.args.j c.roots.r rows (omega (arith, full))) (rw row at c.in_err-print_row.ensures))

pub returns : goal.returns
returns g c =
    let rows = take c.args.count (drop c.args.first c.args.splits.now) in
    let full = length_part c.args.first c.args.count c.args.splits.now c.requires.rows in
    printed_end c.roots.invariant (ap (splits_text c.args.j c.roots.r) (drop_all c.roots.r rows (omega (arith, full))))
