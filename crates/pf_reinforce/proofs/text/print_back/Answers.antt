use Rattle.std.proofs.Common.{◌∷◌, []}
use Rattle.std.specs.Prelude.{codes}
use Rattle.std.proofs.lemmas.Result.{err_from_is_err_and}
use Rattle.pf_io.proofs.PrintingLemmas.{adds_then, adds_none_of}
use Rattle.pf_text.specs.Spelling.{line}
use Rattle.pf_strength.specs.Text.{splits_text}
use Rattle.pf_reinforce.specs.Text.{thresholds_text}
use Rattle.pf_reinforce.proofs.text.print_back.Goals as goal

pub returns-in_err-print_row : goal.returns-in_err-print_row
returns-in_err-print_row g c =
    let p = err_from_is_err_and c.from_residual.result c.from_residual.ensures.1 in
    let thresholds = thresholds_text 0 c.args.thresholds.now c.args.parts.now in
    rw p.1 (adds_none_of {T = Unit {0}} (thresholds ∷ splits_text 0 c.args.splits.now ∷ line (codes "end" ∷ []) ∷ []) c.in_err-print_row.ensures)

pub returns-in_err-print_thresholds : goal.returns-in_err-print_thresholds
returns-in_err-print_thresholds g c =
    let p = err_from_is_err_and c.from_residual-in_err-print_thresholds.result c.from_residual-in_err-print_thresholds.ensures.1 in
    rw p.1 (adds_none_of {T = Unit {0}} (splits_text 0 c.args.splits.now ∷ line (codes "end" ∷ []) ∷ []) (adds_then c.in_ok-print_row.ensures c.in_err-print_thresholds.ensures))

pub returns-in_err-print_splits : goal.returns-in_err-print_splits
returns-in_err-print_splits g c =
    let p = err_from_is_err_and c.from_residual-in_err-print_splits.result c.from_residual-in_err-print_splits.ensures.1 in
    rw p.1 (adds_none_of {T = Unit {0}} (line (codes "end" ∷ []) ∷ []) (adds_then (adds_then c.in_ok-print_row.ensures c.in_ok-print_thresholds.ensures) c.in_err-print_splits.ensures))

pub returns : goal.returns
returns g c = adds_then (adds_then (adds_then c.in_ok-print_row.ensures c.in_ok-print_thresholds.ensures) c.in_ok-print_splits.ensures) c.word.ensures
