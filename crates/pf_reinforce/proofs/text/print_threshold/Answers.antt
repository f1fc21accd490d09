use Rattle.std.proofs.Common.{◌∷◌, [], ◌++◌}
use Rattle.std.specs.Fmt.{signed_decimal}
use Rattle.std.proofs.lemmas.Result.{err_from_is_err_and}
use Rattle.pf_text.specs.Spelling.{label_line}
use Rattle.pf_io.proofs.PrintingLemmas.{adds_then, adds_stopped}
use Rattle.pf_reinforce.proofs.Printed.{threshold_pieces}
use Rattle.pf_reinforce.proofs.text.print_threshold.Goals as goal

pub returns-in_err-print_head : goal.returns-in_err-print_head
returns-in_err-print_head g c =
    let p = err_from_is_err_and c.from_residual.result c.from_residual.ensures.1 in
    rw (p.1, ← threshold_pieces c.args.j c.args.price.now c.args.labels.now) (adds_stopped ((32 ∷ signed_decimal c.args.price.now) ++ label_line [] [] c.args.labels.now) c.in_err-print_head.ensures)

pub returns-in_err-print_number : goal.returns-in_err-print_number
returns-in_err-print_number g c =
    let p = err_from_is_err_and c.from_residual-in_err-print_number.result c.from_residual-in_err-print_number.ensures.1 in
    rw (p.1, ← threshold_pieces c.args.j c.args.price.now c.args.labels.now) (adds_then c.in_ok-print_head.ensures (adds_stopped (label_line [] [] c.args.labels.now) c.in_err-print_number.ensures))

pub returns : goal.returns
returns g c = rw (← threshold_pieces c.args.j c.args.price.now c.args.labels.now) (adds_then c.in_ok-print_head.ensures (adds_then c.in_ok-print_number.ensures c.print_labels.ensures))
