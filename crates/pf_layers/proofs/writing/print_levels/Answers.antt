use Rattle.std.proofs.Common.{◌<◌, ◌≤◌, length, arith}
use Rattle.std.proofs.lemmas.List.{at_drop_all}
use Rattle.std.proofs.lemmas.Result.{err_from_is_err_and}
use Rattle.pf_io.proofs.PrintedLemmas.{printed_begin, printed_more, printed_stopped, printed_end}
use Rattle.pf_layers.specs.Text.{levels_text}
use Rattle.pf_layers.proofs.LevelLines.{levels_text_at}
use Rattle.pf_layers.proofs.writing.print_levels.Goals as goal

pub lines-init : goal.lines-init
lines-init g c = printed_begin c.args.out.now _ c.requires

pub lines-preserved : goal.lines-preserved
lines-preserved g c =
    let low : c.lines.j < length c.args.levels.now = omega (arith, c.lines-test.true) in
    let next = levels_text_at c.lines.j c.args.levels.now c.index-levels-j.result low in
    printed_more c.lines.invariant next (rw c.index-levels-j.is at c.in_ok-print_fraction_row.ensures)

pub returns-in_err-print_fraction_row : goal.returns-in_err-print_fraction_row
returns-in_err-print_fraction_row g c =
    let p = err_from_is_err_and c.from_residual.result c.from_residual.ensures.1 in
    let low : c.lines.j < length c.args.levels.now = omega (arith, c.lines-test.true) in
    let next = levels_text_at c.lines.j c.args.levels.now c.index-levels-j.result low in
    rw p.1 (printed_stopped _ c.lines.invariant next (rw c.index-levels-j.is at c.in_err-print_fraction_row.ensures))

pub returns : goal.returns
returns g c =
    let all : length c.args.levels.now ≤ c.lines.j = omega (arith, c.lines-test.false) in
    printed_end c.lines.invariant (at_drop_all (levels_text c.lines.j) c.args.levels.now c.lines.j all)
