use Rattle.std.proofs.Common.{◌<◌, ◌≤◌, length, arith}
use Rattle.std.proofs.lemmas.Result.{err_from_is_err_and}
use Rattle.pf_io.proofs.PrintedLemmas.{printed_begin, printed_more, printed_stopped, printed_end}
use Rattle.pf_principal.proofs.Printed.{levels_text_at, levels_start, levels_none}
use Rattle.pf_principal.proofs.text.print_levels.Goals as goal

pub levels-init : goal.levels-init
levels-init g c = rw (levels_start c.args.nodes c.args.vectors.now c.args.splits.now) (printed_begin c.args.out.now _ c.requires.usable)

pub levels-preserved : goal.levels-preserved
levels-preserved g c =
    let low : c.levels.j < length c.args.vectors.now = omega (arith, c.rows-j-end.ensures) in
    printed_more c.levels.invariant (levels_text_at c.args.nodes c.args.vectors.now c.args.splits.now c.levels.j low) (rw c.row.ensures at c.in_ok-print_level.ensures)

pub returns-in_err-print_level : goal.returns-in_err-print_level
returns-in_err-print_level g c =
    let p = err_from_is_err_and c.from_residual.result c.from_residual.ensures.1 in
    let low : c.levels.j < length c.args.vectors.now = omega (arith, c.rows-j-end.ensures) in
    rw p.1 (printed_stopped _ c.levels.invariant (levels_text_at c.args.nodes c.args.vectors.now c.args.splits.now c.levels.j low) (rw c.row.ensures at c.in_err-print_level.ensures))

pub returns : goal.returns
returns g c =
    let all : length c.args.vectors.now ≤ c.levels.j = omega (arith, c.rows-j-end.ensures) in
    printed_end c.levels.invariant (levels_none c.args.nodes c.args.vectors.now c.args.splits.now c.levels.j all)
