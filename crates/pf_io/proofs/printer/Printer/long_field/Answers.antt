use Rattle.std.proofs.Common.{rules}
use Rattle.std.proofs.lemmas.Int.{to_z-of_z}
use Rattle.std.proofs.lemmas.Result.{err_from_is_err_and}
use Rattle.std.specs.Int.{w128}
use mir.Val.{SFits}
use Rattle.pf_io.proofs.PrintingLemmas.{adds_then, adds_stopped}
use Rattle.pf_io.proofs.printer.Printer.long_field.Goals as goal

pub returns-in_err-byte : goal.returns-in_err-byte
returns-in_err-byte g c =
    let p = err_from_is_err_and c.from_residual.result c.from_residual.ensures.1 in
    rw p.1 (adds_stopped _ c.in_err-byte.ensures)

pub returns : goal.returns
returns g c =
    let fits : SFits w128 c.args.value = search rules in
    adds_then c.in_ok-byte.ensures (rw (to_z-of_z w128 c.args.value fits) at c.long_number.ensures)
