use Rattle.std.proofs.Common.{arith, ap, ◌∙◌, ◌++◌}
use Rattle.std.proofs.lemmas.Result.{err_from_is_err_and}
use Rattle.pf_lines.specs.Taking.{IsExcused}
use Rattle.pf_lines.proofs.ItemsTaken.{item_refused, items_end}
use Rattle.pf_principal.proofs.RowLemmas.{split_items, splits_stand, added_begins, added_more}
use Rattle.pf_principal.proofs.rows.take_splits.Goals as goal

pub roots-init : goal.roots-init
roots-init c = added_begins c.args.graph.now c.args.j c.args.count c.args.splits.now c.args.text.now

pub returns-in_err-row-clause-found : goal.returns-in_err-row-clause-found
returns-in_err-row-clause-found c = λ rows rest full each there.
    let p = err_from_is_err_and c.from_residual.result c.from_residual.ensures.1 in
    rw (p.1, p.2) (item_refused (split_items c.args.graph.now c.args.j) c.args.count c.args.text.now c.roots.text c.roots.r c.roots.invariant.rows (IsExcused c.in_err-row.field-0.0) c.roots.invariant.has c.roots-test.true
    (λ row later sized behind e. c.in_err-row.ensures.found row later sized e) rows rest (splits_stand c.args.graph.now c.args.j c.args.count c.args.text.now rows rest full each there))

pub roots-preserved : goal.roots-preserved
roots-preserved c =
    added_more c.args.graph.now c.args.j c.args.count c.args.splits.now c.roots.splits c.push.new.self c.args.text.now c.roots.text c.take_edge_row.new.text c.roots.r c.in_ok-row.row c.roots.invariant
    c.roots-test.true c.in_ok-push.ensures.added c.in_ok-row.ensures.taken c.in_ok-row.ensures.shape (λ y rest sized e. c.in_ok-row.ensures.found y rest sized e)

pub returns-clause-taken : goal.returns-clause-taken
returns-clause-taken c =
    let i = c.roots.invariant in
    record { rows = i.rows; count_is = omega (arith, i.has.number); sized = i.has.each; table_is = i.table_is; text_is = i.has.taken }

pub returns-clause-found : goal.returns-clause-found
returns-clause-found c = λ rows rest full each there.
    let i = c.roots.invariant in
    let f = items_end (split_items c.args.graph.now c.args.j) c.args.count c.args.text.now c.roots.text c.roots.r i.rows i.has (omega arith)
    rows rest (splits_stand c.args.graph.now c.args.j c.args.count c.args.text.now rows rest full each there) in
    (i.table_is ∙ ap (λ t. c.args.splits.now ++ t) f.0, f.1)
