use Rattle.std.proofs.Common.{◌+◌, ◌<◌, ◌≤◌, List, length, get_or, drop, ap, arith, ◌∙◌}
use Rattle.std.proofs.lemmas.List.{at_drop_all}
use Rattle.std.proofs.lemmas.Result.{err_from_is_err_and}
use Rattle.pf_model.specs.Fraction.{Fraction}
use Rattle.pf_io.proofs.PrintedLemmas.{printed_begin, printed_more, printed_stopped, printed_end}
use Rattle.pf_select.specs.Problem.{selection_at}
use Rattle.pf_select.specs.Text.{changes_text}
use Rattle.pf_select.proofs.ChangeTexts.{changes_text_at}
use Rattle.pf_select.proofs.writing.print_changes.Goals as goal

pub prices-init : goal.prices-init
prices-init g c = printed_begin c.args.out.now _ c.requires.usable

pub prices-preserved : goal.prices-preserved
prices-preserved g c =
    let a = c.args.answer.now in
    let whole = c.get-prices.ensures ∙ c.prices-2.ensures in
    let full = ap length whole in
    let count = c.requires.shape.count in
    let at = c.index-prices-j.is ∙ ap (λ (l : List Fraction). get_or l c.prices.j c.index-prices-j.result) whole in
    let low : c.prices.j < length a.prices = omega (arith, c.prices-test.true, full) in
    let next = changes_text_at c.args.catalogue.now c.prices.j a.prices a.selections c.index-prices-j.result low (omega (arith, low, count)) in
    printed_more c.prices.invariant next (rw (at, c.selection-before.ensures, c.selection-set.ensures) at c.in_ok-print_change.ensures)

pub returns-in_err-print_change : goal.returns-in_err-print_change
returns-in_err-print_change g c =
    let p = err_from_is_err_and c.from_residual.result c.from_residual.ensures.1 in
    let a = c.args.answer.now in
    let whole = c.get-prices.ensures ∙ c.prices-2.ensures in
    let full = ap length whole in
    let count = c.requires.shape.count in
    let at = c.index-prices-j.is ∙ ap (λ (l : List Fraction). get_or l c.prices.j c.index-prices-j.result) whole in
    let low : c.prices.j < length a.prices = omega (arith, c.prices-test.true, full) in
    let next = changes_text_at c.args.catalogue.now c.prices.j a.prices a.selections c.index-prices-j.result low (omega (arith, low, count)) in
    rw p.1 (printed_stopped _ c.prices.invariant next (rw (at, c.selection-before.ensures, c.selection-set.ensures) at c.in_err-print_change.ensures))

pub returns : goal.returns
returns g c =
    let a = c.args.answer.now in
    let full = ap length (c.get-prices.ensures ∙ c.prices-2.ensures) in
    let all : length a.prices ≤ c.prices.j = omega (arith, c.prices-test.false, full) in
    printed_end c.prices.invariant
    (at_drop_all (λ (l : List Fraction). changes_text c.args.catalogue.now c.prices.j (selection_at a.selections c.prices.j) l (drop (c.prices.j + 1) a.selections)) a.prices
    c.prices.j all)
