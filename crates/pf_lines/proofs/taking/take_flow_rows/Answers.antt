use Rattle.std.proofs.Common.{◌∙◌, sym, arith}
use Rattle.std.proofs.lemmas.Result.{err_from_is_err_and}
use Rattle.pf_lines.specs.Taking.{IsExcused}
use Rattle.pf_lines.proofs.ItemsTaken.{items_begin, item_taken, item_refused, items_end}
use Rattle.pf_lines.proofs.FlowRows.{row_items, rows_stand, first_place}
use Rattle.pf_lines.proofs.taking.take_flow_rows.Goals as goal

pub flows-init : goal.flows-init
flows-init c = rw c.new-flows.ensures (items_begin (row_items c.args.word.now c.args.first c.args.width) c.args.count c.args.text.now)

pub returns-in_err-flow-clause-found : goal.returns-in_err-flow-clause-found
returns-in_err-flow-clause-found c = λ flows rest full each there.
    let p = err_from_is_err_and c.from_residual.result c.from_residual.ensures.1 in
    rw (p.1, p.2) (item_refused (row_items c.args.word.now c.args.first c.args.width) c.args.count c.args.text.now c.flows.text c.flows.j c.flows.flows (IsExcused c.in_err-flow.field-0.0) c.flows.invariant c.flows-test.true
    (λ flow later row behind e. c.in_err-flow.ensures.found flow later row e) flows rest
    (rows_stand c.args.word.now c.args.first c.args.width c.args.count c.args.text.now flows rest full each there))

pub flows-preserved : goal.flows-preserved
flows-preserved c =
    rw c.in_ok-push.ensures.added (item_taken (row_items c.args.word.now c.args.first c.args.width) c.args.count c.args.text.now c.flows.text c.take_flow_row.new.text c.flows.j c.flows.flows c.in_ok-flow.flow
    c.flows.invariant c.flows-test.true c.in_ok-flow.ensures.taken c.in_ok-flow.ensures.shape (λ flow later row behind e. c.in_ok-flow.ensures.found flow later row e))

pub returns-clause-taken : goal.returns-clause-taken
returns-clause-taken c = c.flows.invariant.taken ∙ sym (first_place c.args.word.now c.args.first c.flows.flows c.flows.text)

pub returns-clause-count : goal.returns-clause-count
returns-clause-count c = omega (arith, c.flows.invariant.number)

pub returns-clause-shape : goal.returns-clause-shape
returns-clause-shape c = c.flows.invariant.each

pub returns-clause-found : goal.returns-clause-found
returns-clause-found c = λ flows rest full each there.
    items_end (row_items c.args.word.now c.args.first c.args.width) c.args.count c.args.text.now c.flows.text c.flows.j c.flows.flows c.flows.invariant (omega arith)
    flows rest (rows_stand c.args.word.now c.args.first c.args.width c.args.count c.args.text.now flows rest full each there)
