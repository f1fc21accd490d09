use Rattle.std.proofs.Common.{◌∷◌, [], map}
use Rattle.std.specs.Fmt.{decimal}
use Rattle.std.proofs.lemmas.Result.{err_from_is_err_and}
use Rattle.pf_io.proofs.PrintingLemmas.{adds_then, adds_stopped}
use Rattle.pf_text.proofs.SpellingLemmas.{rest_is}
use Rattle.pf_io.proofs.printing.print_rest_labels.Goals as goal

pub returns-in_err-print_label_fields : goal.returns-in_err-print_label_fields
returns-in_err-print_label_fields g c =
    let p = err_from_is_err_and c.from_residual.result c.from_residual.ensures.1 in
    rw (p.1, ← rest_is (map decimal c.args.labels.now)) (adds_stopped (10 ∷ []) c.in_err-print_label_fields.ensures)

pub returns : goal.returns
returns g c = rw (← rest_is (map decimal c.args.labels.now)) (adds_then c.in_ok-print_label_fields.ensures c.byte.ensures)
