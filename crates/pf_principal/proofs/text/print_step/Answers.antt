use Rattle.std.proofs.Common.{◌≡◌, ◌∙◌, ap, rules}
use Rattle.std.proofs.lemmas.Int.{to_z-of_z}
use Rattle.std.proofs.lemmas.Result.{err_from_is_err_and}
use Rattle.std.specs.Int.{w128}
use mir.Val.{SFits}
use Rattle.pf_model.specs.Line.{AffineLine, value_at}
use Rattle.pf_graph.specs.Best.{partition_value}
use Rattle.pf_io.proofs.PrintingLemmas.{adds_then, adds_stopped}
use Rattle.pf_principal.specs.Text.{part_line}
use Rattle.pf_principal.proofs.text.print_step.Goals as goal

pub returns-in_err-print_fraction_row : goal.returns-in_err-print_fraction_row
returns-in_err-print_fraction_row g c =
    let p = err_from_is_err_and c.from_residual.result c.from_residual.ensures.1 in
    let fits : SFits w128 c.at-value.result = search rules in
    let value : c.at-value.result ≡ partition_value c.args.graph.now c.args.before.now c.args.level.now =
    c.at-value.ensures ∙ ap (λ (l : AffineLine). value_at l c.args.level.now) c.line_of.ensures in
    rw p.1 (adds_stopped {T = Unit {0}} (part_line c.args.j c.args.behind.now) (rw (to_z-of_z w128 c.at-value.result fits, value) at c.in_err-print_fraction_row.ensures))

pub returns : goal.returns
returns g c =
    let fits : SFits w128 c.at-value.result = search rules in
    let value : c.at-value.result ≡ partition_value c.args.graph.now c.args.before.now c.args.level.now =
    c.at-value.ensures ∙ ap (λ (l : AffineLine). value_at l c.args.level.now) c.line_of.ensures in
    adds_then (rw (to_z-of_z w128 c.at-value.result fits, value) at c.in_ok-print_fraction_row.ensures) (rw c.labels.ensures.value at c.print_labels.ensures)
