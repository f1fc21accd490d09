use Rattle.std.proofs.Common.{◌∷◌, [], map}
use Rattle.std.specs.Prelude.{codes}
use Rattle.std.specs.Fmt.{signed_decimal}
use Rattle.std.proofs.lemmas.Result.{err_from_is_err_and}
use Rattle.pf_io.proofs.PrintingLemmas.{adds_then, adds_none_of}
use Rattle.pf_text.specs.Spelling.{line}
use Rattle.pf_par.specs.Answers.{point_fields, cut_fields, point_text}
use Rattle.pf_par.proofs.writing.print_answer.Goals as goal

pub returns-in_err-word : goal.returns-in_err-word
unfolding point_text
returns-in_err-word g c =
    let p = err_from_is_err_and c.from_residual.result c.from_residual.ensures.1 in
    let point = line (codes "b" ∷ point_fields c.args.net.now c.args.at.now c.args.flow.now) in
    let cut = line (codes "s" ∷ cut_fields c.args.net.now c.args.side.now) in
    rw p.1 (adds_none_of {T = Unit {0}} (point ∷ cut ∷ line (codes "f" ∷ map signed_decimal c.args.flow.now) ∷ line (codes "end" ∷ []) ∷ []) c.in_err-word.ensures)

pub returns-in_err-print_point : goal.returns-in_err-print_point
unfolding point_text
returns-in_err-print_point g c =
    let p = err_from_is_err_and c.from_residual-in_err-print_point.result c.from_residual-in_err-print_point.ensures.1 in
    let cut = line (codes "s" ∷ cut_fields c.args.net.now c.args.side.now) in
    rw p.1 (adds_none_of {T = Unit {0}} (cut ∷ line (codes "f" ∷ map signed_decimal c.args.flow.now) ∷ line (codes "end" ∷ []) ∷ []) (adds_then c.in_ok-word.ensures c.in_err-print_point.ensures))

pub returns-in_err-print_cut : goal.returns-in_err-print_cut
unfolding point_text
returns-in_err-print_cut g c =
    let p = err_from_is_err_and c.from_residual-in_err-print_cut.result c.from_residual-in_err-print_cut.ensures.1 in
    rw p.1 (adds_none_of {T = Unit {0}} (line (codes "f" ∷ map signed_decimal c.args.flow.now) ∷ line (codes "end" ∷ []) ∷ []) (adds_then (adds_then c.in_ok-word.ensures c.in_ok-print_point.ensures) c.in_err-print_cut.ensures))

pub returns-in_err-print_row : goal.returns-in_err-print_row
unfolding point_text
returns-in_err-print_row g c =
    let p = err_from_is_err_and c.from_residual-in_err-print_row.result c.from_residual-in_err-print_row.ensures.1 in
    rw p.1 (adds_none_of {T = Unit {0}} (line (codes "end" ∷ []) ∷ []) (adds_then (adds_then (adds_then c.in_ok-word.ensures c.in_ok-print_point.ensures) c.in_ok-print_cut.ensures) c.in_err-print_row.ensures))

pub returns : goal.returns
unfolding point_text
returns g c = adds_then (adds_then (adds_then (adds_then c.in_ok-word.ensures c.in_ok-print_point.ensures) c.in_ok-print_cut.ensures) c.in_ok-print_row.ensures) c.word-2.ensures
