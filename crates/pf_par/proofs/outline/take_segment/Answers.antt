use Rattle.std.proofs.Common.{◌++◌, ◌∙◌, append_assoc}
use Rattle.pf_par.specs.Outline.{cut_line, point_line}
use Rattle.pf_par.proofs.OutlineLemmas.{same_segment}
use Rattle.pf_par.proofs.outline.take_segment.Goals as goal

pub returns-in_err-point-clause-found : goal.returns-in_err-point-clause-found
returns-in_err-point-clause-found c = λ segment rest shape e.
    let cut = cut_line c.args.net.now c.args.i segment.side in
    let point = point_line c.args.i segment.point in
    let side = c.in_ok-side.ensures.found segment.side (point ++ rest) shape.cut (e ∙ append_assoc cut point rest) in
    absurd (c.in_err-point.ensures.found segment.point rest shape.point side.1)

pub returns-clause-found : goal.returns-clause-found
returns-clause-found c = λ segment rest shape e.
    let cut = cut_line c.args.net.now c.args.i segment.side in
    let point = point_line c.args.i segment.point in
    let side = c.in_ok-side.ensures.found segment.side (point ++ rest) shape.cut (e ∙ append_assoc cut point rest) in
    let given = c.in_ok-point.ensures.found segment.point rest shape.point side.1 in
    (same_segment c.in_ok-side.side c.in_ok-point.point segment side.0 given.0, given.1)
