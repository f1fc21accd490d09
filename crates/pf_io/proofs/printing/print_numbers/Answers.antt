use Rattle.std.proofs.Common.{drop, map}
use Rattle.std.specs.Fmt.{signed_decimal}
use Rattle.std.specs.Prelude.{pos}
use Rattle.std.proofs.lemmas.Result.{err_from_is_err_and}
use Rattle.pf_text.specs.Spelling.{spaced}
use Rattle.pf_text.proofs.SpellingLemmas.{spaced_more, spaced_all}
use Rattle.pf_io.proofs.PrintingLemmas.{adds_then, adds_stopped, adds_nothing}
use Rattle.pf_io.proofs.printing.print_numbers.Goals as goal

pub items-init : goal.items-init
items-init g c = adds_nothing c.args.out.now c.requires

pub items-preserved : goal.items-preserved
items-preserved g c = rw (spaced_more signed_decimal c.args.numbers.now c.items.number-index (pos 0) c.items-test.true) (adds_then c.items.invariant c.in_ok-print_number.ensures)

pub returns-in_err-print_number : goal.returns-in_err-print_number
returns-in_err-print_number g c =
    let p = err_from_is_err_and c.from_residual.result c.from_residual.ensures.1 in
    rw (p.1, spaced_all signed_decimal c.args.numbers.now c.items.number-index (pos 0) c.items-test.true) (adds_stopped (spaced (map signed_decimal (drop _ c.args.numbers.now))) (adds_then c.items.invariant c.in_err-print_number.ensures))
