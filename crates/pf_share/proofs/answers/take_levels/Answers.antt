use Rattle.std.proofs.Common.{arith}
use Rattle.pf_lines.proofs.ItemsTaken.{items_begin, item_taken, item_refused, items_end}
use Rattle.pf_share.proofs.ShareLines.{level_items, levels_stand}
use Rattle.pf_share.proofs.answers.take_levels.Goals as goal

pub levels-init : goal.levels-init
levels-init c = rw c.new-levels.ensures (items_begin level_items c.args.count c.args.text.now)

pub returns-in_err-level-clause-found : goal.returns-in_err-level-clause-found
returns-in_err-level-clause-found c = λ levels rest full each there.
    absurd (item_refused level_items c.args.count c.args.text.now c.levels.text c.levels.j c.levels.levels ⊥ c.levels.invariant c.levels-test.true
    (λ level later shape behind e. c.in_err-level.ensures.found level later shape e) levels rest (levels_stand c.args.count c.args.text.now levels rest full each there))

pub levels-preserved : goal.levels-preserved
levels-preserved c =
    rw c.in_ok-push.ensures.added (item_taken level_items c.args.count c.args.text.now c.levels.text c.take_level.new.text c.levels.j c.levels.levels c.in_ok-level.level
    c.levels.invariant c.levels-test.true c.in_ok-level.ensures.taken c.in_ok-level.ensures.shape (λ level later shape behind e. c.in_ok-level.ensures.found level later shape e))

pub returns-clause-taken : goal.returns-clause-taken
returns-clause-taken c = c.levels.invariant.taken

pub returns-clause-count : goal.returns-clause-count
returns-clause-count c = omega (arith, c.levels.invariant.number)

pub returns-clause-shape : goal.returns-clause-shape
returns-clause-shape c = c.levels.invariant.each

pub returns-clause-found : goal.returns-clause-found
returns-clause-found c = λ levels rest full each there.
    items_end level_items c.args.count c.args.text.now c.levels.text c.levels.j c.levels.levels c.levels.invariant (omega arith)
    levels rest (levels_stand c.args.count c.args.text.now levels rest full each there)
