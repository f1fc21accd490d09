use Rattle.std.proofs.Common.{◌∷◌, []}
use Rattle.std.specs.Prelude.{codes}
use Rattle.std.proofs.lemmas.Result.{err_from_is_err_and}
use Rattle.pf_io.proofs.PrintingLemmas.{adds_then, adds_stopped}
use Rattle.pf_text.specs.Spelling.{side_line}
use Rattle.pf_select.proofs.writing.print_change.Goals as goal

pub returns-in_err-print_price : goal.returns-in_err-print_price
returns-in_err-print_price g c =
    let p = err_from_is_err_and c.from_residual.result c.from_residual.ensures.1 in
    rw p.1 (adds_stopped {T = Unit {0}} (side_line (codes "s") (c.args.j ∷ []) [] c.args.set.now) c.in_err-print_price.ensures)

pub returns : goal.returns
returns g c = adds_then c.in_ok-print_price.ensures c.print_side_row.ensures
