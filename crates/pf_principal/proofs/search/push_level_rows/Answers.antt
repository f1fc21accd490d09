use Rattle.std.proofs.Common.{arith, ◌∙◌}
use Rattle.std.proofs.lemmas.Int.{ints}
use Rattle.pf_principal.proofs.Filled.{adds_level}
use Rattle.pf_principal.proofs.search.push_level_rows.Goals as goal

pub fill-requires : goal.fill-requires
fill-requires c = let low = c.requires.low in omega (arith, ints, low)

pub returns-clause-added : goal.returns-clause-added
returns-clause-added c =
    adds_level c.args.forest.now.graph c.fill.new.self.graph c.args.level.now c.fill.new.self.vector c.from_vec.result c.fill.new.self.labels c.args.vectors.now c.push.new.self c.args.splits.now
    c.push_splits.new.table c.fill.ensures.graph c.vector.ensures.graph (record { bounds = c.q-q.ensures.bounds; lowest = c.q-q.ensures.lowest }) c.fill.ensures.filled
    (c.from_vec.ensures ∙ c.in_ok-vector.ensures.items ∙ c.vector.ensures.value) c.in_ok-push.ensures.added (c.in_ok-push_splits.ensures.splits c.args.level.now c.fill.ensures.level)
