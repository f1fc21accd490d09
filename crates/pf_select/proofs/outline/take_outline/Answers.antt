use Rattle.std.proofs.Common.{◌++◌, arith}
use Rattle.std.proofs.lemmas.Result.{err_from_is_err_and}
use Rattle.pf_lines.specs.Taking.{IsExcused}
use Rattle.pf_lines.proofs.PartsTaken.{parts_begin, part_taken, part_refused, parts_end}
use Rattle.pf_select.specs.Outline.{all_changes}
use Rattle.pf_select.proofs.OutlineLemmas.{outline_parts, outline_stands, outline_ends}
use Rattle.pf_select.proofs.outline.take_outline.Goals as goal

pub returns-in_err-first-clause-found : goal.returns-in_err-first-clause-found
returns-in_err-first-clause-found c = λ first changes rest full number each e.
    let p = err_from_is_err_and c.from_residual.result c.from_residual.ensures.1 in
    let s = outline_stands c.args.width c.args.count c.args.text.now first changes rest full number each e in
    rw (p.1, p.2) (c.in_err-first.ensures.found first (all_changes 0 changes ++ rest) full s.text)

pub changes-init : goal.changes-init
changes-init c =
    parts_begin (outline_parts c.args.width) c.args.count c.args.text.now c.take_side_row.new.text _ c.in_ok-first.first c.in_ok-outline.ensures.begun c.in_ok-first.ensures.count
    c.in_ok-first.ensures.taken c.in_ok-first.ensures.found

pub returns-in_err-change-clause-found : goal.returns-in_err-change-clause-found
returns-in_err-change-clause-found c = λ first changes rest full number each e.
    let p = err_from_is_err_and c.from_residual-in_err-change.result c.from_residual-in_err-change.ensures.1 in
    rw (p.1, p.2) (part_refused (outline_parts c.args.width) c.args.count c.args.text.now c.changes.text c.changes.j c.changes.outline c.changes.invariant (IsExcused c.in_err-change.field-0.0) c.changes-test.true
    (λ change later is behind there. c.in_err-change.ensures.found change later is there) first changes rest (outline_stands c.args.width c.args.count c.args.text.now first changes rest full number each e))

pub changes-preserved : goal.changes-preserved
changes-preserved c =
    part_taken (outline_parts c.args.width) c.args.count c.args.text.now c.changes.text c.changes.j c.changes.outline c.changes.invariant c.take_change.new.text _ c.in_ok-change.change c.changes-test.true
    c.in_ok-add_change.ensures.added c.in_ok-change.ensures.taken c.in_ok-change.ensures.shape (λ change later is behind there. c.in_ok-change.ensures.found change later is there)

pub returns-clause-taken : goal.returns-clause-taken
returns-clause-taken c = outline_ends c.args.width c.args.count c.args.text.now c.changes.text c.changes.j c.changes.outline c.changes.invariant (omega arith)

pub returns-clause-found : goal.returns-clause-found
returns-clause-found c = λ first changes rest full number each e.
    parts_end (outline_parts c.args.width) c.args.count c.args.text.now c.changes.text c.changes.j c.changes.outline c.changes.invariant (omega arith) first changes rest
    (outline_stands c.args.width c.args.count c.args.text.now first changes rest full number each e)
