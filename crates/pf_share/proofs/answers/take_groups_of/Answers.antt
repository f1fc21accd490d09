use Rattle.std.proofs.Common.{◌++◌, length, sym, ap, ◌∙◌, arith}
use Rattle.std.proofs.lemmas.Result.{err_from_is_err_and}
use Rattle.pf_share.specs.Certificate.{SharesAnswer}
use Rattle.pf_share.specs.Taken.{front_text}
use Rattle.pf_share.proofs.TextLemmas.{row_of_groups, level_lines, front_lines, levels_are_few, front_taken, groups_shape, front_shape, front_same}
use Rattle.pf_share.proofs.answers.take_groups_of.Goals as goal

pub returns-in_err-count-clause-found : goal.returns-in_err-count-clause-found
returns-in_err-count-clause-found c = λ levels groups rest shape there.
    absurd (c.in_err-count.ensures.found (length levels) (level_lines levels groups rest) (omega arith) (levels_are_few levels groups rest) (there ∙ front_lines levels groups rest))

pub returns-in_err-levels-clause-found : goal.returns-in_err-levels-clause-found
returns-in_err-levels-clause-found c = λ levels groups rest shape there.
    let p = err_from_is_err_and c.from_residual-in_err-levels.result c.from_residual-in_err-levels.ensures.1 in
    let k = c.in_ok-count.ensures.found (length levels) (level_lines levels groups rest) (omega arith) (levels_are_few levels groups rest) (there ∙ front_lines levels groups rest) in
    rw (p.1, p.2) (c.in_err-levels.ensures.found levels (row_of_groups groups rest) (sym k.0) shape.levels k.1)

pub returns-in_err-groups-clause-found : goal.returns-in_err-groups-clause-found
returns-in_err-groups-clause-found c = λ levels groups rest shape there.
    let p = err_from_is_err_and c.from_residual-in_err-groups.result c.from_residual-in_err-groups.ensures.1 in
    let k = c.in_ok-count.ensures.found (length levels) (level_lines levels groups rest) (omega arith) (levels_are_few levels groups rest) (there ∙ front_lines levels groups rest) in
    let l = c.in_ok-levels.ensures.found levels (row_of_groups groups rest) (sym k.0) shape.levels k.1 in
    rw (p.1, p.2) (c.in_err-groups.ensures.found groups rest (groups_shape c.args.sharing.now c.in_ok-count.count levels groups k.0 shape) l.1)

pub returns-clause-taken : goal.returns-clause-taken
returns-clause-taken c =
    front_taken c.args.text.now c.take_count.new.text c.take_levels.new.text c.take_groups.new.text c.in_ok-count.count c.in_ok-levels.levels c.in_ok-groups.groups
    c.in_ok-count.ensures.taken c.in_ok-levels.ensures.taken c.in_ok-groups.ensures.taken c.in_ok-levels.ensures.count
    ∙ ap (λ (a : SharesAnswer). front_text a.levels a.groups ++ c.take_groups.new.text) (sym c.new.ensures)

pub returns-clause-shape : goal.returns-clause-shape
returns-clause-shape c =
    let none = c.new-none.ensures in
    rw c.new.ensures (rw none
    (front_shape c.args.sharing.now c.in_ok-count.count c.in_ok-levels.levels c.in_ok-groups.groups c.in_ok-levels.ensures.count c.in_ok-levels.ensures.shape c.in_ok-groups.ensures.shape))

pub returns-clause-found : goal.returns-clause-found
returns-clause-found c = λ levels groups rest shape there.
    let k = c.in_ok-count.ensures.found (length levels) (level_lines levels groups rest) (omega arith) (levels_are_few levels groups rest) (there ∙ front_lines levels groups rest) in
    let l = c.in_ok-levels.ensures.found levels (row_of_groups groups rest) (sym k.0) shape.levels k.1 in
    let m = c.in_ok-groups.ensures.found groups rest (groups_shape c.args.sharing.now c.in_ok-count.count levels groups k.0 shape) l.1 in
    (c.new.ensures ∙ front_same c.in_ok-levels.levels levels c.in_ok-groups.groups groups c.new-none.result l.0 m.0 c.new-none.ensures, m.1)
