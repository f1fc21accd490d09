use Rattle.std.proofs.Common.{◌≡◌, ◌∷◌, [], arith, to_z, of_z}
use Rattle.std.specs.Int.{w128}
use Rattle.std.specs.Prelude.{codes}
use Rattle.std.proofs.lemmas.Int.{ints}
use Rattle.std.proofs.lemmas.Result.{err_from_is_err_and}
use Rattle.pf_text.specs.Spelling.{line, row_line}
use Rattle.pf_io.proofs.PrintingLemmas.{adds_then, adds_none_of}
use Rattle.pf_gen.specs.Right.{summary_text}
use Rattle.pf_gen.proofs.writing.write_summary.Goals as goal

pub returns-in_err-word : goal.returns-in_err-word
unfolding summary_text
returns-in_err-word g c =
    let p = err_from_is_err_and c.from_residual.result c.from_residual.ensures.1 in
    let s = c.args.summary.now in
    rw p.1 (adds_none_of {T = Unit {0}} (row_line (codes "g") (s.nodes ∷ s.arcs ∷ s.segments ∷ []) (s.low_value ∷ s.high_value ∷ []) ∷ line (codes "end" ∷ []) ∷ []) c.in_err-word.ensures)

pub returns-in_err-print_row : goal.returns-in_err-print_row
unfolding summary_text
returns-in_err-print_row g c =
    let p = err_from_is_err_and c.from_residual-in_err-print_row.result c.from_residual-in_err-print_row.ensures.1 in
    let low : to_z w128 (of_z w128 c.args.summary.now.low_value) ≡ c.args.summary.now.low_value = omega (arith, ints) in
    let high : to_z w128 (of_z w128 c.args.summary.now.high_value) ≡ c.args.summary.now.high_value = omega (arith, ints) in
    rw p.1 (adds_none_of {T = Unit {0}} (line (codes "end" ∷ []) ∷ []) (adds_then c.in_ok-word.ensures (rw (low, high) at c.in_err-print_row.ensures)))

pub returns : goal.returns
unfolding summary_text
returns g c =
    let low : to_z w128 (of_z w128 c.args.summary.now.low_value) ≡ c.args.summary.now.low_value = omega (arith, ints) in
    let high : to_z w128 (of_z w128 c.args.summary.now.high_value) ≡ c.args.summary.now.high_value = omega (arith, ints) in
    adds_then (adds_then c.in_ok-word.ensures (rw (low, high) at c.in_ok-print_row.ensures)) c.word-2.ensures
