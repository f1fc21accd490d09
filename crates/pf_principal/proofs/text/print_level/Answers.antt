use Rattle.std.proofs.Common.{take, drop}
use Rattle.std.proofs.lemmas.Result.{err_from_is_err_and}
use Rattle.pf_io.proofs.PrintingLemmas.{adds_then, adds_stopped}
use Rattle.pf_principal.specs.Text.{splits_text}
use Rattle.pf_principal.proofs.text.print_level.Goals as goal

pub returns-in_err-print_row : goal.returns-in_err-print_row
returns-in_err-print_row g c =
    let p = err_from_is_err_and c.from_residual.result c.from_residual.ensures.1 in
    rw p.1 (adds_stopped {T = Unit {0}} (splits_text c.args.j 0 (take c.args.count (drop c.args.first c.args.splits.now))) c.in_err-print_row.ensures)

pub returns : goal.returns
returns g c = adds_then c.in_ok-print_row.ensures c.print_splits.ensures
