use Rattle.std.proofs.Common.{◌≡◌, ℕ, List, arith, sym, ap, ◌∙◌, subst}
use Rattle.std.proofs.lemmas.Int.{ints}
use Rattle.pf_graph.specs.WeightedGraph.{WeightedGraph}
use Rattle.pf_graph.specs.Labels.{IsPartition}
use Rattle.pf_graph.specs.Best.{partition_line, IsBest}
use Rattle.pf_principal.proofs.BestLines.{least_line}
use Rattle.pf_principal.proofs.family.find_best.Goals as goal

pub fill-requires : goal.fill-requires
fill-requires c = let low = c.requires.low in omega (arith, ints, low)

pub line_of-line-requires : goal.line_of-line-requires
line_of-line-requires c =
    let e : c.in_ok-partition.partition ≡ c.fill.new.self.labels = c.in_ok-partition.ensures ∙ c.partition.ensures in
    let P : List ℕ → Type 0 = λ l. IsPartition c.graph.result.now.nodes l in
    let Q : WeightedGraph → Type 0 = λ g. IsPartition g.nodes c.fill.new.self.labels in
    (subst P (sym e) (subst Q (sym c.graph.ensures) c.vector.ensures.partition)).full

pub returns-clause-found : goal.returns-clause-found
returns-clause-found c =
    let e : c.in_ok-partition.partition ≡ c.fill.new.self.labels = c.in_ok-partition.ensures ∙ c.partition.ensures in
    let g : c.fill.new.self.graph ≡ c.args.forest.now.graph = c.fill.ensures.graph in
    let P : List ℕ → Type 0 = λ l. IsPartition c.args.forest.now.graph.nodes l in
    let Q : WeightedGraph → Type 0 = λ h. IsPartition h.nodes c.fill.new.self.labels in
    record {
      partition = subst P (sym e) (subst Q g c.vector.ensures.partition);
      line_is = c.line_of-line.ensures ∙ ap (λ (h : WeightedGraph). partition_line h c.in_ok-partition.partition) (c.graph.ensures ∙ g);
    }

pub returns-clause-least : goal.returns-clause-least
returns-clause-least c =
    let e : c.in_ok-partition.partition ≡ c.fill.new.self.labels = c.in_ok-partition.ensures ∙ c.partition.ensures in
    let g : c.fill.new.self.graph ≡ c.args.forest.now.graph = c.fill.ensures.graph in
    let P : List ℕ → Type 0 = λ l. IsBest c.args.forest.now.graph c.args.at.now l in
    let Q : WeightedGraph → Type 0 = λ h. IsBest h c.args.at.now c.fill.new.self.labels in
    least_line c.args.forest.now.graph c.args.at.now c.line_of-line.result c.in_ok-partition.partition (subst P (sym e) (subst Q g c.fill.ensures.filled.best))
    (c.line_of-line.ensures ∙ ap (λ (h : WeightedGraph). partition_line h c.in_ok-partition.partition) (c.graph.ensures ∙ g))
