use Rattle.std.proofs.Common.{arith}
use Rattle.std.proofs.lemmas.Result.{err_from_is_err_and}
use Rattle.pf_lines.specs.Taking.{IsExcused}
use Rattle.pf_lines.proofs.ItemsTaken.{item_refused}
use Rattle.pf_principal.proofs.RowLemmas.{level_items, levels_stand, levels_begin, levels_more, levels_taken, levels_shape, levels_end}
use Rattle.pf_principal.specs.Text.{levels_rows}
use Rattle.pf_principal.proofs.rows.take_levels.Goals as goal

pub levels-init : goal.levels-init
levels-init c = levels_begin c.args.graph.now c.args.count c.args.vectors.now c.args.splits.now c.args.text.now c.requires.vectors c.requires.splits

pub levels-preserved : goal.levels-preserved
levels-preserved c =
    levels_more c.args.graph.now c.args.count c.levels.vectors c.take_level.new.vectors c.levels.splits c.take_level.new.splits c.args.text.now c.levels.text c.take_level.new.text c.levels.j c.levels.invariant
    c.levels-test.true c.in_ok-take_level.ensures.taken c.in_ok-take_level.ensures.found

pub returns-in_err-take_level-clause-found : goal.returns-in_err-take_level-clause-found
returns-in_err-take_level-clause-found c = λ vectors splits rest tables there.
    let p = err_from_is_err_and c.from_residual.result c.from_residual.ensures.1 in
    let i = c.levels.invariant in
    rw (p.1, p.2) (item_refused (level_items c.args.graph.now) c.args.count c.args.text.now c.levels.text c.levels.j i.got (IsExcused c.in_err-take_level.field-0.0) i.has c.levels-test.true
    (λ rows later shape behind e. c.in_err-take_level.ensures.found rows later shape e) (levels_rows c.args.graph.now.nodes vectors splits) rest
    (levels_stand c.args.graph.now c.args.count c.args.text.now vectors splits rest tables there))

pub returns-clause-taken : goal.returns-clause-taken
returns-clause-taken c = levels_taken c.args.graph.now c.args.count c.levels.vectors c.levels.splits c.args.text.now c.levels.text c.levels.j c.levels.invariant

pub returns-clause-shape : goal.returns-clause-shape
returns-clause-shape c = levels_shape c.args.graph.now c.args.count c.levels.vectors c.levels.splits c.args.text.now c.levels.text c.levels.j c.levels.invariant (omega arith)

pub returns-clause-found : goal.returns-clause-found
returns-clause-found c = λ vectors splits rest tables there.
    levels_end c.args.graph.now c.args.count c.levels.vectors c.levels.splits c.args.text.now c.levels.text c.levels.j c.levels.invariant (omega arith) vectors splits rest tables there
