use Rattle.std.proofs.Common.{rules}
use Rattle.std.specs.Int.{w128}
use Rattle.std.proofs.lemmas.Int.{to_z-of_z}
use Rattle.std.proofs.lemmas.Result.{err_from_is_err_and}
use Rattle.pf_io.proofs.PrintingLemmas.{adds_then, adds_stopped}
use Rattle.pf_reinforce.specs.Text.{back_text, added_text}
use Rattle.pf_reinforce.proofs.text.print_added.Goals as goal
use mir.Val.{SFits}

pub returns-in_err-print_front : goal.returns-in_err-print_front
unfolding added_text
returns-in_err-print_front g c =
    let p = err_from_is_err_and c.from_residual.result c.from_residual.ensures.1 in
    let fits : SFits w128 c.cost.result = search rules in
    rw p.1 (adds_stopped {T = Unit {0}} (back_text c.args.answer.now.thresholds c.args.answer.now.parts c.args.answer.now.splits)
    (rw (to_z-of_z w128 c.cost.result fits, c.level.ensures, c.cost.ensures, c.get.ensures, c.added.ensures, c.get-2.ensures, c.vector.ensures) at c.in_err-print_front.ensures))

pub returns : goal.returns
unfolding added_text
returns g c =
    let fits : SFits w128 c.cost.result = search rules in
    adds_then (rw (to_z-of_z w128 c.cost.result fits, c.level.ensures, c.cost.ensures, c.get.ensures, c.added.ensures, c.get-2.ensures, c.vector.ensures) at c.in_ok-print_front.ensures)
    (rw (c.get-3.ensures, c.thresholds.ensures, c.get-4.ensures, c.parts.ensures, c.splits.ensures) at c.print_back.ensures)
