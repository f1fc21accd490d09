use Rattle.std.proofs.Common.{[]}
use Rattle.std.specs.Prelude.{codes}
use Rattle.std.proofs.lemmas.Result.{err_from_is_err_and}
use Rattle.pf_io.proofs.PrintingLemmas.{adds_then, adds_stopped}
use Rattle.pf_text.specs.Spelling.{label_line}
use Rattle.pf_strength.proofs.partition_lines.PartitionLinesFormat.print.Goals as goal

pub returns-in_err-print_row : goal.returns-in_err-print_row
returns-in_err-print_row g c =
    let p = err_from_is_err_and c.from_residual.result c.from_residual.ensures.1 in
    rw p.1 (adds_stopped {T = Unit {0}} {U = Unit {0}} (label_line (codes "s") [] c.args.value.now) (rw c.parts.ensures at c.in_err-print_row.ensures))

pub returns : goal.returns
returns g c = adds_then (rw c.parts.ensures at c.in_ok-print_row.ensures) (rw c.labels.ensures.value at c.print_labels.ensures)
