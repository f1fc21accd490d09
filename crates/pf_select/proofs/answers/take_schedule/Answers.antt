use Rattle.std.proofs.Common.{◌++◌, length, sym, ap, ◌∙◌, arith}
use Rattle.std.proofs.lemmas.Result.{err_from_is_err_and}
use Rattle.pf_select.specs.Text.{schedule_text}
use Rattle.pf_select.proofs.ChargeLines.{rows_of_shape, shape_of_rows}
use Rattle.pf_select.proofs.TextLemmas.{last_lines, charge_lines, selection_lines, count_lines, all_lines, prices_are_few, selections_shape, same_answer, text_taken, answer_shape}
use Rattle.pf_select.proofs.answers.take_schedule.Goals as goal

pub returns-in_err-take_word-clause-found : goal.returns-in_err-take_word-clause-found
returns-in_err-take_word-clause-found c = λ answer rest shape there.
    absurd (c.in_err-take_word.ensures.found (count_lines c.args.catalogue.now answer rest) (there ∙ all_lines c.args.catalogue.now answer rest))

pub returns-in_err-count-clause-found : goal.returns-in_err-count-clause-found
returns-in_err-count-clause-found c = λ answer rest shape there.
    let a = c.in_ok-take_word.ensures.found (count_lines c.args.catalogue.now answer rest) (there ∙ all_lines c.args.catalogue.now answer rest) in
    absurd (c.in_err-count.ensures.found (length answer.prices) (selection_lines c.args.catalogue.now answer.prices answer.selections answer.charges rest) (omega arith) (prices_are_few c.args.catalogue.now answer rest shape) a)

pub returns-in_err-outline-clause-found : goal.returns-in_err-outline-clause-found
returns-in_err-outline-clause-found c = λ answer rest shape there.
    let p = err_from_is_err_and c.from_residual-in_err-outline.result c.from_residual-in_err-outline.ensures.1 in
    let a = c.in_ok-take_word.ensures.found (count_lines c.args.catalogue.now answer rest) (there ∙ all_lines c.args.catalogue.now answer rest) in
    let k = c.in_ok-count.ensures.found (length answer.prices) (selection_lines c.args.catalogue.now answer.prices answer.selections answer.charges rest) (omega arith) (prices_are_few c.args.catalogue.now answer rest shape) a in
    rw (p.1, p.2) (c.in_err-outline.ensures.found answer.prices answer.selections (charge_lines answer.charges rest) (selections_shape c.args.catalogue.now answer c.in_ok-count.count shape k.0) k.1)

pub returns-in_err-charges-clause-found : goal.returns-in_err-charges-clause-found
returns-in_err-charges-clause-found c = λ answer rest shape there.
    let p = err_from_is_err_and c.from_residual-in_err-charges.result c.from_residual-in_err-charges.ensures.1 in
    let a = c.in_ok-take_word.ensures.found (count_lines c.args.catalogue.now answer rest) (there ∙ all_lines c.args.catalogue.now answer rest) in
    let k = c.in_ok-count.ensures.found (length answer.prices) (selection_lines c.args.catalogue.now answer.prices answer.selections answer.charges rest) (omega arith) (prices_are_few c.args.catalogue.now answer rest shape) a in
    let s = c.in_ok-outline.ensures.found answer.prices answer.selections (charge_lines answer.charges rest) (selections_shape c.args.catalogue.now answer c.in_ok-count.count shape k.0) k.1 in
    rw (p.1, p.2) (c.in_err-charges.ensures.found answer.charges (last_lines rest) (shape.charges_count ∙ sym k.0) (rows_of_shape c.args.catalogue.now c.needs-width.result answer.charges c.needs-width.ensures shape.charges) s.2)

pub returns-in_err-take_word-2-clause-found : goal.returns-in_err-take_word-2-clause-found
returns-in_err-take_word-2-clause-found c = λ answer rest shape there.
    let a = c.in_ok-take_word.ensures.found (count_lines c.args.catalogue.now answer rest) (there ∙ all_lines c.args.catalogue.now answer rest) in
    let k = c.in_ok-count.ensures.found (length answer.prices) (selection_lines c.args.catalogue.now answer.prices answer.selections answer.charges rest) (omega arith) (prices_are_few c.args.catalogue.now answer rest shape) a in
    let s = c.in_ok-outline.ensures.found answer.prices answer.selections (charge_lines answer.charges rest) (selections_shape c.args.catalogue.now answer c.in_ok-count.count shape k.0) k.1 in
    let f = c.in_ok-charges.ensures.found answer.charges (last_lines rest) (shape.charges_count ∙ sym k.0) (rows_of_shape c.args.catalogue.now c.needs-width.result answer.charges c.needs-width.ensures shape.charges) s.2 in
    absurd (c.in_err-take_word-2.ensures.found rest f.1)

pub returns-clause-found : goal.returns-clause-found
returns-clause-found c = λ answer rest shape there.
    let a = c.in_ok-take_word.ensures.found (count_lines c.args.catalogue.now answer rest) (there ∙ all_lines c.args.catalogue.now answer rest) in
    let k = c.in_ok-count.ensures.found (length answer.prices) (selection_lines c.args.catalogue.now answer.prices answer.selections answer.charges rest) (omega arith) (prices_are_few c.args.catalogue.now answer rest shape) a in
    let s = c.in_ok-outline.ensures.found answer.prices answer.selections (charge_lines answer.charges rest) (selections_shape c.args.catalogue.now answer c.in_ok-count.count shape k.0) k.1 in
    let f = c.in_ok-charges.ensures.found answer.charges (last_lines rest) (shape.charges_count ∙ sym k.0) (rows_of_shape c.args.catalogue.now c.needs-width.result answer.charges c.needs-width.ensures shape.charges) s.2 in (
      c.new.ensures ∙ same_answer c.in_ok-outline.outline.prices answer.prices c.in_ok-outline.outline.selections answer.selections c.in_ok-charges.charges answer.charges s.0 s.1 f.0,
      c.in_ok-take_word-2.ensures.found rest f.1,
    )

pub returns-clause-taken : goal.returns-clause-taken
returns-clause-taken c =
    text_taken c.args.catalogue.now c.args.text.now _ _ _ _ c.take_word-2.new.text c.in_ok-count.count c.in_ok-outline.outline.prices c.in_ok-outline.outline.selections c.in_ok-charges.charges
    c.in_ok-take_word.ensures.taken c.in_ok-count.ensures.taken c.in_ok-outline.ensures.taken c.in_ok-charges.ensures.taken c.in_ok-take_word-2.ensures.taken
    c.in_ok-outline.ensures.shape.full ∙ ap (λ answer. schedule_text c.args.catalogue.now answer ++ c.take_word-2.new.text) (sym c.new.ensures)

pub returns-clause-shape : goal.returns-clause-shape
returns-clause-shape c =
    rw c.new.ensures (answer_shape c.args.catalogue.now c.in_ok-count.count c.in_ok-outline.outline.prices c.in_ok-outline.outline.selections c.in_ok-charges.charges c.in_ok-outline.ensures.shape
    c.in_ok-charges.ensures.count (shape_of_rows c.args.catalogue.now c.needs-width.result c.in_ok-charges.charges c.needs-width.ensures c.in_ok-charges.ensures.shape))
