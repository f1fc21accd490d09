use Rattle.std.proofs.Common.{drop, map}
use Rattle.std.specs.Fmt.{decimal}
use Rattle.std.proofs.lemmas.Result.{err_from_is_err_and}
use Rattle.pf_text.specs.Spelling.{spaced}
use Rattle.pf_text.proofs.SpellingLemmas.{spaced_more, spaced_all}
use Rattle.pf_io.proofs.PrintingLemmas.{adds_then, adds_stopped, adds_nothing}
use Rattle.pf_io.proofs.printing.print_label_fields.Goals as goal

pub items-init : goal.items-init
items-init g c = adds_nothing c.args.out.now c.requires

pub items-preserved : goal.items-preserved
items-preserved g c = rw (spaced_more decimal c.args.labels.now c.items.label-index 0 c.items-test.true) (adds_then c.items.invariant c.in_ok-print_index.ensures)

pub returns-in_err-print_index : goal.returns-in_err-print_index
returns-in_err-print_index g c =
    let p = err_from_is_err_and c.from_residual.result c.from_residual.ensures.1 in
    rw (p.1, spaced_all decimal c.args.labels.now c.items.label-index 0 c.items-test.true) (adds_stopped (spaced (map decimal (drop _ c.args.labels.now))) (adds_then c.items.invariant c.in_err-print_index.ensures))
