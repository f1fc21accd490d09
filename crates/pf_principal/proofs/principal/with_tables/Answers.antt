use Rattle.std.proofs.Common.{refl}
use Rattle.pf_principal.proofs.Filled.{filled_in}
use Rattle.pf_principal.proofs.principal.with_tables.Goals as goal

pub fill_tables-requires-clause-levels : goal.fill_tables-requires-clause-levels
fill_tables-requires-clause-levels c = rw c.get.ensures c.requires

pub returns-clause-answer : goal.returns-clause-answer
returns-clause-answer c = rw c.new.ensures refl

pub returns-clause-filled : goal.returns-clause-filled
returns-clause-filled c =
    filled_in c.args.forest.now.graph c.args.levels c.get.result.now c.args.parts c.fill_tables.new.vectors c.fill_tables.new.splits c.new.result c.get.ensures
    c.in_ok-fill_tables.ensures.filled c.new.ensures
