use Rattle.std.proofs.Common.{◌∷◌, []}
use Rattle.std.specs.Prelude.{codes}
use Rattle.std.proofs.lemmas.Result.{err_from_is_err_and}
use Rattle.pf_io.proofs.PrintingLemmas.{adds_then, adds_none_of}
use Rattle.pf_text.specs.Spelling.{line, label_line}
use Rattle.pf_reinforce.specs.Text.{blocked_text}
use Rattle.pf_reinforce.proofs.text.print_blocked.Goals as goal

pub returns-in_err-word : goal.returns-in_err-word
unfolding blocked_text
returns-in_err-word g c =
    let p = err_from_is_err_and c.from_residual.result c.from_residual.ensures.1 in
    rw p.1 (adds_none_of {T = Unit {0}} (label_line (codes "s") [] c.args.labels.now ∷ line (codes "end" ∷ []) ∷ []) c.in_err-word.ensures)

pub returns-in_err-print_labels : goal.returns-in_err-print_labels
unfolding blocked_text
returns-in_err-print_labels g c =
    let p = err_from_is_err_and c.from_residual-in_err-print_labels.result c.from_residual-in_err-print_labels.ensures.1 in
    rw p.1 (adds_none_of {T = Unit {0}} (line (codes "end" ∷ []) ∷ []) (adds_then c.in_ok-word.ensures c.in_err-print_labels.ensures))

pub returns : goal.returns
unfolding blocked_text
returns g c = adds_then (adds_then c.in_ok-word.ensures c.in_ok-print_labels.ensures) c.word-2.ensures
