use Rattle.std.proofs.Common.{◌∷◌, [], map}
use Rattle.std.specs.Fmt.{signed_decimal}
use Rattle.std.proofs.lemmas.Result.{err_from_is_err_and}
use Rattle.pf_io.proofs.PrintingLemmas.{adds_then, adds_stopped}
use Rattle.pf_text.specs.Spelling.{rest_of_line}
use Rattle.pf_text.proofs.SpellingLemmas.{rest-append}
use Rattle.pf_io.proofs.printing.print_rest_fraction.Goals as goal

pub returns-in_err-print_fraction : goal.returns-in_err-print_fraction
returns-in_err-print_fraction g c =
    let p = err_from_is_err_and c.from_residual.result c.from_residual.ensures.1 in
    rw (p.1, ← rest-append (signed_decimal c.args.at.now.p ∷ signed_decimal c.args.at.now.q ∷ []) (map signed_decimal c.args.numbers.now)) (adds_stopped (rest_of_line (map signed_decimal c.args.numbers.now)) c.in_err-print_fraction.ensures)

pub returns : goal.returns
returns g c = rw (← rest-append (signed_decimal c.args.at.now.p ∷ signed_decimal c.args.at.now.q ∷ []) (map signed_decimal c.args.numbers.now)) (adds_then c.in_ok-print_fraction.ensures c.print_rest.ensures)
