use Rattle.std.proofs.Common.{◌∷◌, [], map}
use Rattle.std.specs.Fmt.{signed_decimal}
use Rattle.std.proofs.lemmas.Result.{err_from_is_err_and}
use Rattle.pf_io.proofs.PrintingLemmas.{adds_then, adds_stopped}
use Rattle.pf_text.proofs.SpellingLemmas.{rest_is}
use Rattle.pf_io.proofs.printing.print_rest.Goals as goal

pub returns-in_err-print_numbers : goal.returns-in_err-print_numbers
returns-in_err-print_numbers g c =
    let p = err_from_is_err_and c.from_residual.result c.from_residual.ensures.1 in
    rw (p.1, ← rest_is (map signed_decimal c.args.numbers.now)) (adds_stopped (10 ∷ []) c.in_err-print_numbers.ensures)

pub returns : goal.returns
returns g c = rw (← rest_is (map signed_decimal c.args.numbers.now)) (adds_then c.in_ok-print_numbers.ensures c.byte.ensures)
