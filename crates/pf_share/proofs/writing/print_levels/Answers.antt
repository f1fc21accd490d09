use Rattle.std.proofs.Common.{◌≤◌, length, arith}
use Rattle.std.proofs.lemmas.List.{at_drop_all}
use Rattle.std.proofs.lemmas.Result.{err_from_is_err_and}
use Rattle.pf_io.proofs.PrintedLemmas.{printed_begin, printed_more, printed_stopped, printed_end}
use Rattle.pf_share.specs.Text.{levels_text}
use Rattle.pf_share.proofs.ShareLines.{levels_text_at}
use Rattle.pf_share.proofs.writing.print_levels.Goals as goal

pub levels-init : goal.levels-init
levels-init g c = printed_begin c.args.out.now _ c.requires

pub levels-preserved : goal.levels-preserved
levels-preserved g c =
    let next = levels_text_at c.levels.j c.args.levels.now c.index-levels-j.result c.levels-test.true in
    printed_more c.levels.invariant next (rw c.index-levels-j.is at c.in_ok-print_fraction_row.ensures)

pub returns-in_err-print_fraction_row : goal.returns-in_err-print_fraction_row
returns-in_err-print_fraction_row g c =
    let p = err_from_is_err_and c.from_residual.result c.from_residual.ensures.1 in
    let next = levels_text_at c.levels.j c.args.levels.now c.index-levels-j.result c.levels-test.true in
    rw p.1 (printed_stopped _ c.levels.invariant next (rw c.index-levels-j.is at c.in_err-print_fraction_row.ensures))

pub returns : goal.returns
returns g c =
    let all : length c.args.levels.now ≤ c.levels.j = omega (arith, c.levels-test.false) in
    printed_end c.levels.invariant (at_drop_all (levels_text c.levels.j) c.args.levels.now c.levels.j all)
