use Rattle.std.proofs.Common.{◌∷◌, [], length}
use Rattle.std.specs.Prelude.{codes}
use Rattle.std.specs.Fmt.{decimal}
use Rattle.std.proofs.lemmas.Result.{err_from_is_err_and}
use Rattle.pf_text.specs.Spelling.{line}
use Rattle.pf_par.specs.Answers.{points_text, flows_text, curve_text}
use Rattle.pf_io.proofs.PrintingLemmas.{adds_then, adds_none_of}
use Rattle.pf_par.proofs.writing.write_curve.Goals as goal

pub returns-in_err-word : goal.returns-in_err-word
unfolding curve_text
returns-in_err-word g c =
    let p = err_from_is_err_and c.from_residual.result c.from_residual.ensures.1 in
    let curve = c.args.curve.now in
    rw p.1 (adds_none_of {T = Unit {0}} (line (codes "k" ∷ decimal (length curve.cuts) ∷ []) ∷ points_text c.args.net.now curve.cuts curve.points curve.flows ∷ flows_text 0 curve.flows ∷ line (codes "end" ∷ []) ∷ []) c.in_err-word.ensures)

pub returns-in_err-print_row : goal.returns-in_err-print_row
unfolding curve_text
returns-in_err-print_row g c =
    let p = err_from_is_err_and c.from_residual-in_err-print_row.result c.from_residual-in_err-print_row.ensures.1 in
    let curve = c.args.curve.now in
    rw p.1 (adds_none_of {T = Unit {0}} (points_text c.args.net.now curve.cuts curve.points curve.flows ∷ flows_text 0 curve.flows ∷ line (codes "end" ∷ []) ∷ []) (adds_then c.in_ok-word.ensures (rw c.cut_count.ensures at c.in_err-print_row.ensures)))

pub returns-in_err-print_points : goal.returns-in_err-print_points
unfolding curve_text
returns-in_err-print_points g c =
    let p = err_from_is_err_and c.from_residual-in_err-print_points.result c.from_residual-in_err-print_points.ensures.1 in
    let curve = c.args.curve.now in
    rw p.1 (adds_none_of {T = Unit {0}} (flows_text 0 curve.flows ∷ line (codes "end" ∷ []) ∷ []) (adds_then (adds_then c.in_ok-word.ensures (rw c.cut_count.ensures at c.in_ok-print_row.ensures)) c.in_err-print_points.ensures))

pub returns-in_err-print_flows : goal.returns-in_err-print_flows
unfolding curve_text
returns-in_err-print_flows g c =
    let p = err_from_is_err_and c.from_residual-in_err-print_flows.result c.from_residual-in_err-print_flows.ensures.1 in
    let curve = c.args.curve.now in
    rw p.1 (adds_none_of {T = Unit {0}} (line (codes "end" ∷ []) ∷ []) (adds_then (adds_then (adds_then c.in_ok-word.ensures (rw c.cut_count.ensures at c.in_ok-print_row.ensures)) c.in_ok-print_points.ensures) c.in_err-print_flows.ensures))

pub returns : goal.returns
unfolding curve_text
returns g c =
    adds_then (adds_then (adds_then (adds_then c.in_ok-word.ensures (rw c.cut_count.ensures at c.in_ok-print_row.ensures)) c.in_ok-print_points.ensures) c.in_ok-print_flows.ensures) c.word-2.ensures
