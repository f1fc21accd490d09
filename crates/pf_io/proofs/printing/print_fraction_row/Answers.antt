use Rattle.std.proofs.Common.{◌∷◌, map}
use Rattle.std.specs.Fmt.{signed_decimal}
use Rattle.std.proofs.lemmas.Result.{err_from_is_err_and}
use Rattle.pf_io.proofs.PrintingLemmas.{adds_then, adds_stopped}
use Rattle.pf_text.specs.Spelling.{rest_of_line}
use Rattle.pf_text.proofs.SpellingLemmas.{head_then}
use Rattle.pf_io.proofs.printing.print_fraction_row.Goals as goal

pub returns-in_err-print_head : goal.returns-in_err-print_head
returns-in_err-print_head g c =
    let p = err_from_is_err_and c.from_residual.result c.from_residual.ensures.1 in
    let fields = signed_decimal c.args.at.now.p ∷ signed_decimal c.args.at.now.q ∷ map signed_decimal c.args.numbers.now in
    rw (p.1, ← head_then c.args.word.now c.args.indices.now fields) (adds_stopped (rest_of_line fields) c.in_err-print_head.ensures)

pub returns : goal.returns
returns g c = rw (← head_then c.args.word.now c.args.indices.now (signed_decimal c.args.at.now.p ∷ signed_decimal c.args.at.now.q ∷ map signed_decimal c.args.numbers.now)) (adds_then c.in_ok-print_head.ensures c.print_rest_fraction.ensures)
