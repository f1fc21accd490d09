use Rattle.std.proofs.Common.{◌≡◌, get_or, drop, arith}
use Rattle.std.proofs.lemmas.Result.{err_from_is_err_and}
use Rattle.pf_io.proofs.PrintingLemmas.{adds_then, adds_stopped}
use Rattle.pf_par.specs.Answers.{segments_text}
use Rattle.pf_par.proofs.WritingLemmas.{points_text_is}
use Rattle.pf_par.proofs.writing.print_points.Goals as goal

pub returns-in_err-print_point : goal.returns-in_err-print_point
returns-in_err-print_point g c =
    let p = err_from_is_err_and c.from_residual.result c.from_residual.ensures.1 in
    let at : c.index-points-0.result ≡ get_or c.args.curve.now.points 0 c.index-points-0.result = rw c.points.ensures.points at c.index-points-0.is in
    let whole = points_text_is c.args.net.now c.args.curve.now.cuts c.args.curve.now.points c.args.curve.now.flows c.index-points-0.result
    (omega (arith, c.requires.shape.count)) (omega (arith, c.requires.shape.count, c.requires.shape.flow_count)) in
    rw (p.1, ← whole) (adds_stopped (segments_text c.args.net.now 1 c.args.curve.now.cuts (drop 1 c.args.curve.now.points) (drop 1 c.args.curve.now.flows)) (rw (at, c.flow.ensures) at c.in_err-print_point.ensures))

pub returns : goal.returns
returns g c =
    let at : c.index-points-0.result ≡ get_or c.args.curve.now.points 0 c.index-points-0.result = rw c.points.ensures.points at c.index-points-0.is in
    let whole = points_text_is c.args.net.now c.args.curve.now.cuts c.args.curve.now.points c.args.curve.now.flows c.index-points-0.result
    (omega (arith, c.requires.shape.count)) (omega (arith, c.requires.shape.count, c.requires.shape.flow_count)) in
    rw (← whole) (adds_then (rw (at, c.flow.ensures) at c.in_ok-print_point.ensures) c.print_segments.ensures)
