use Rattle.std.proofs.Common.{◌∷◌, [], rules}
use Rattle.std.specs.Prelude.{codes}
use Rattle.std.specs.Int.{w128}
use Rattle.std.proofs.lemmas.Int.{to_z-of_z}
use Rattle.std.proofs.lemmas.Result.{err_from_is_err_and}
use Rattle.pf_io.proofs.PrintingLemmas.{adds_then, adds_none_of}
use Rattle.pf_text.specs.Spelling.{row_line, fraction_line}
use Rattle.pf_reinforce.proofs.text.print_front.Goals as goal
use mir.Val.{SFits}

pub returns-in_err-word : goal.returns-in_err-word
returns-in_err-word g c =
    let p = err_from_is_err_and c.from_residual.result c.from_residual.ensures.1 in
    let cost = row_line (codes "c") [] (c.args.cost ∷ []) in
    let added = row_line (codes "x") [] c.args.added.now in
    let vector = row_line (codes "y") [] c.args.vector.now in
    rw p.1 (adds_none_of {T = Unit {0}} (fraction_line (codes "d") [] c.args.level.now [] ∷ cost ∷ added ∷ vector ∷ []) c.in_err-word.ensures)

pub returns-in_err-print_fraction_row : goal.returns-in_err-print_fraction_row
returns-in_err-print_fraction_row g c =
    let p = err_from_is_err_and c.from_residual-in_err-print_fraction_row.result c.from_residual-in_err-print_fraction_row.ensures.1 in
    let cost = row_line (codes "c") [] (c.args.cost ∷ []) in
    let added = row_line (codes "x") [] c.args.added.now in
    let vector = row_line (codes "y") [] c.args.vector.now in
    rw p.1 (adds_none_of {T = Unit {0}} (cost ∷ added ∷ vector ∷ []) (adds_then c.in_ok-word.ensures c.in_err-print_fraction_row.ensures))

pub returns-in_err-print_row : goal.returns-in_err-print_row
returns-in_err-print_row g c =
    let p = err_from_is_err_and c.from_residual-in_err-print_row.result c.from_residual-in_err-print_row.ensures.1 in
    let fits : SFits w128 c.args.cost = search rules in
    let added = row_line (codes "x") [] c.args.added.now in
    let vector = row_line (codes "y") [] c.args.vector.now in
    rw p.1 (adds_none_of {T = Unit {0}} (added ∷ vector ∷ [])
    (adds_then (adds_then c.in_ok-word.ensures c.in_ok-print_fraction_row.ensures) (rw (to_z-of_z w128 c.args.cost fits) at c.in_err-print_row.ensures)))

pub returns-in_err-print_row-2 : goal.returns-in_err-print_row-2
returns-in_err-print_row-2 g c =
    let p = err_from_is_err_and c.from_residual-in_err-print_row-2.result c.from_residual-in_err-print_row-2.ensures.1 in
    let fits : SFits w128 c.args.cost = search rules in
    let vector = row_line (codes "y") [] c.args.vector.now in
    rw p.1 (adds_none_of {T = Unit {0}} (vector ∷ [])
    (adds_then (adds_then (adds_then c.in_ok-word.ensures c.in_ok-print_fraction_row.ensures) (rw (to_z-of_z w128 c.args.cost fits) at c.in_ok-print_row.ensures)) c.in_err-print_row-2.ensures))

pub returns : goal.returns
returns g c =
    let fits : SFits w128 c.args.cost = search rules in
    adds_then (adds_then (adds_then (adds_then c.in_ok-word.ensures c.in_ok-print_fraction_row.ensures) (rw (to_z-of_z w128 c.args.cost fits) at c.in_ok-print_row.ensures)) c.in_ok-print_row-2.ensures) c.print_row-3.ensures
