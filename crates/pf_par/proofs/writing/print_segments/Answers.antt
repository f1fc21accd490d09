use Rattle.std.proofs.Common.{◌≡◌, ◌+◌, ◌<◌, length, get_or, arith}
use Rattle.std.proofs.lemmas.Result.{err_from_is_err_and}
use Rattle.pf_par.proofs.AnswersLemmas.{segments_text_at}
use Rattle.pf_par.proofs.WritingLemmas.{segments_text-end}
use Rattle.pf_io.proofs.PrintedLemmas.{printed_begin, printed_more, printed_stopped, printed_end}
use Rattle.pf_par.proofs.writing.print_segments.Goals as goal

pub segments-init : goal.segments-init
segments-init g c = printed_begin c.args.out.now _ c.requires.usable

pub segments-preserved : goal.segments-preserved
segments-preserved g c =
    let low : c.segments.i < length c.args.curve.now.cuts = omega (arith, c.cut_count-i-end.ensures) in
    let at : c.index-points-i.result ≡ get_or c.args.curve.now.points (c.segments.i + 1) c.index-points-i.result = rw c.points-points.ensures.points at c.index-points-i.is in
    let next = segments_text_at c.args.net.now c.segments.i c.args.curve.now.cuts c.args.curve.now.points c.args.curve.now.flows c.index-points-i.result low
    (omega (arith, low, c.requires.shape.count)) (omega (arith, low, c.requires.shape.count, c.requires.shape.flow_count)) in
    printed_more c.segments.invariant next (rw (at, c.cut.ensures, c.flow.ensures) at c.in_ok-print_segment.ensures)

pub returns-in_err-print_segment : goal.returns-in_err-print_segment
returns-in_err-print_segment g c =
    let p = err_from_is_err_and c.from_residual.result c.from_residual.ensures.1 in
    let low : c.segments.i < length c.args.curve.now.cuts = omega (arith, c.cut_count-i-end.ensures) in
    let at : c.index-points-i.result ≡ get_or c.args.curve.now.points (c.segments.i + 1) c.index-points-i.result = rw c.points-points.ensures.points at c.index-points-i.is in
    let next = segments_text_at c.args.net.now c.segments.i c.args.curve.now.cuts c.args.curve.now.points c.args.curve.now.flows c.index-points-i.result low
    (omega (arith, low, c.requires.shape.count)) (omega (arith, low, c.requires.shape.count, c.requires.shape.flow_count)) in
    rw p.1 (printed_stopped _ c.segments.invariant next (rw (at, c.cut.ensures, c.flow.ensures) at c.in_err-print_segment.ensures))

pub returns : goal.returns
returns g c =
    let all : length c.args.curve.now.cuts ≡ c.segments.i = omega (arith, c.cut_count-i-end.ensures) in
    printed_end c.segments.invariant (rw (← all) (segments_text-end c.args.net.now _ c.args.curve.now.cuts _ _))
