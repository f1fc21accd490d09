use Rattle.std.proofs.Common.{◌<◌, ◌-◌, length, arith}
use Rattle.pf_curve.proofs.Filling.{filling_goes_on, row_at_point, point_in, inside_in}
use Rattle.pf_curve.proofs.function.add_row.Goals as goal

pub first_row-requires : goal.first_row-requires
first_row-requires c =
    let here : 0 < length c.args.points.now = omega (arith, c.requires.point) in
    inside_in c.args.finder.now c.args.points.now 0 c.index-points-0.result c.requires.inside here c.index-points-0.is

pub next_row-requires-clause-from : goal.next_row-requires-clause-from
next_row-requires-clause-from c =
    inside_in c.args.finder.now c.args.points.now (c.args.i - 1) c.index-points-previous.result c.requires.inside (omega (arith, c.requires.point)) c.index-points-previous.is

pub next_row-requires-clause-inside : goal.next_row-requires-clause-inside
next_row-requires-clause-inside c =
    inside_in c.args.finder.now c.args.points.now c.args.i c.index-points-i.result c.requires.inside c.requires.point c.index-points-i.is

pub next_row-requires-clause-before : goal.next_row-requires-clause-before
next_row-requires-clause-before c =
    row_at_point c.args.finder.now c.args.points.now c.args.i (c.args.i - 1) c.args.rows.now c.index-points-previous.result c.row_at-before.result.now c.requires.rows (omega arith)
    (point_in c.args.finder.now c.args.points.now (c.args.i - 1) c.index-points-previous.result (omega (arith, c.requires.point)) c.index-points-previous.is) c.row_at-before.ensures

pub returns-clause-rows : goal.returns-clause-rows
returns-clause-rows c =
    filling_goes_on c.args.finder.now c.args.points.now c.args.i c.args.rows.now c.push-2.new.self c.index-points-i.result c.in_ok-row-2.row c.requires.rows
    c.in_ok-push-2.ensures.added (point_in c.args.finder.now c.args.points.now c.args.i c.index-points-i.result c.requires.point c.index-points-i.is)
    c.in_ok-row-2.ensures.found
