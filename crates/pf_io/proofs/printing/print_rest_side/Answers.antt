use Rattle.std.proofs.Common.{◌∷◌, [], ◌++◌}
use Rattle.std.proofs.lemmas.Result.{err_from_is_err_and}
use Rattle.pf_io.proofs.PrintingLemmas.{adds_then, adds_stopped}
use Rattle.pf_text.specs.Spelling.{side_text}
use Rattle.pf_io.proofs.printing.print_rest_side.Goals as goal

pub returns-in_err-byte : goal.returns-in_err-byte
returns-in_err-byte g c =
    let p = err_from_is_err_and c.from_residual.result c.from_residual.ensures.1 in
    rw p.1 (adds_stopped (side_text c.args.side.now ++ 10 ∷ []) c.in_err-byte.ensures)

pub returns-in_err-print_side : goal.returns-in_err-print_side
returns-in_err-print_side g c =
    let p = err_from_is_err_and c.from_residual-in_err-print_side.result c.from_residual-in_err-print_side.ensures.1 in
    rw p.1 (adds_then c.in_ok-byte.ensures (adds_stopped (10 ∷ []) c.in_err-print_side.ensures))

pub returns : goal.returns
returns g c = adds_then c.in_ok-byte.ensures (adds_then c.in_ok-print_side.ensures c.byte-2.ensures)
