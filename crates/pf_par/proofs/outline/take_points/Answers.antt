use Rattle.std.proofs.Common.{◌++◌, sym, ◌∙◌, arith}
use Rattle.std.proofs.lemmas.Result.{err_from_is_err_and}
use Rattle.pf_lines.specs.Taking.{IsExcused}
use Rattle.pf_lines.proofs.PartsTaken.{parts_begin, part_taken, part_refused, parts_end}
use Rattle.pf_par.proofs.SegmentsTaken.{segment_lines, outline_parts, split_of, text_taken, shape_taken}
use Rattle.pf_par.proofs.outline.take_points.Goals as goal

pub returns-in_err-first-clause-found : goal.returns-in_err-first-clause-found
returns-in_err-first-clause-found c = λ o rest shape full e.
    let s = split_of c.args.net.now c.args.count c.args.text.now rest o.points o.cuts o.values shape full e in
    absurd (c.in_err-first.ensures.found s.first (segment_lines c.args.net.now 0 s.segments ++ rest) s.stand.shape s.stand.text)

pub segments-init : goal.segments-init
segments-init c =
    parts_begin (outline_parts c.args.net.now) c.args.count c.args.text.now c.take_valued_row.new.text _ c.in_ok-first.first c.in_ok-outline.ensures.begun c.in_ok-first.ensures.shape
    c.in_ok-first.ensures.taken c.in_ok-first.ensures.found

pub returns-in_err-segment-clause-found : goal.returns-in_err-segment-clause-found
returns-in_err-segment-clause-found c = λ o rest shape full e.
    let p = err_from_is_err_and c.from_residual-in_err-segment.result c.from_residual-in_err-segment.ensures.1 in
    let s = split_of c.args.net.now c.args.count c.args.text.now rest o.points o.cuts o.values shape full e in
    rw (p.1, p.2) (part_refused (outline_parts c.args.net.now) c.args.count c.args.text.now c.segments.text c.segments.i c.segments.outline c.segments.invariant (IsExcused c.in_err-segment.field-0.0) c.segments-test.true
    (λ segment later is behind there. c.in_err-segment.ensures.found segment later is there) s.first s.segments rest s.stand)

pub segments-preserved : goal.segments-preserved
segments-preserved c =
    part_taken (outline_parts c.args.net.now) c.args.count c.args.text.now c.segments.text c.segments.i c.segments.outline c.segments.invariant c.take_segment.new.text _ c.in_ok-segment.segment c.segments-test.true
    c.in_ok-add_segment.ensures.added c.in_ok-segment.ensures.taken c.in_ok-segment.ensures.shape (λ segment later is behind there. c.in_ok-segment.ensures.found segment later is there)

pub returns-clause-taken : goal.returns-clause-taken
returns-clause-taken c = text_taken c.args.net.now c.args.count c.args.text.now c.segments.text c.segments.i c.segments.outline c.segments.invariant

pub returns-clause-count : goal.returns-clause-count
returns-clause-count c =
    let shape = shape_taken c.args.net.now c.args.count c.args.text.now c.segments.text c.segments.i c.segments.outline c.segments.invariant (omega arith) in
    omega (arith, shape.1)

pub returns-clause-shape : goal.returns-clause-shape
returns-clause-shape c = (shape_taken c.args.net.now c.args.count c.args.text.now c.segments.text c.segments.i c.segments.outline c.segments.invariant (omega arith)).0

pub returns-clause-found : goal.returns-clause-found
returns-clause-found c = λ o rest shape full e.
    let s = split_of c.args.net.now c.args.count c.args.text.now rest o.points o.cuts o.values shape full e in
    let end = parts_end (outline_parts c.args.net.now) c.args.count c.args.text.now c.segments.text c.segments.i c.segments.outline c.segments.invariant (omega arith) s.first s.segments rest s.stand in
    (end.0 ∙ sym s.is, end.1)
