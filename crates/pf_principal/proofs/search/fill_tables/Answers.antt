use Rattle.std.proofs.Common.{refl, ◌∙◌, subst}
use Rattle.pf_graph.specs.WeightedGraph.{WeightedGraph}
use Rattle.pf_principal.specs.Rows.{AddsLevel}
use Rattle.pf_principal.proofs.Parts.{level_seen}
use Rattle.pf_principal.proofs.Filled.{filled_begins, filled_goes_on}
use Rattle.pf_principal.proofs.search.fill_tables.Goals as goal

pub levels-init : goal.levels-init
levels-init c = record { same = refl; filled = filled_begins c.args.forest.now.graph c.args.levels.now c.args.vectors.now c.args.splits.now c.requires.vectors c.requires.splits }

pub levels-preserved : goal.levels-preserved
levels-preserved c =
    let i = c.levels.invariant in
    let P : WeightedGraph → Type 0 = λ g. AddsLevel g c.index-levels-j.result c.levels.vectors c.push_level_rows.new.vectors c.levels.splits c.push_level_rows.new.splits in
    record {
      same = c.push_level_rows.ensures.same ∙ i.same;
      filled = filled_goes_on c.args.forest.now.graph c.args.levels.now c.index-levels-j.result c.levels.vectors c.push_level_rows.new.vectors c.levels.splits c.push_level_rows.new.splits
          c.levels.j i.filled (level_seen c.args.levels.now c.args.levels.now c.levels.j c.index-levels-j.result refl c.index-levels-j.is c.levels-test.true)
          (subst P i.same c.in_ok-push_level_rows.ensures.added);
    }
