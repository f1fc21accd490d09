use Rattle.std.proofs.Common.{ℕ, List, ap, sym, ◌∙◌, subst}
use Rattle.pf_graph.specs.WeightedGraph.{WeightedGraph}
use Rattle.pf_graph.specs.Labels.{parts, IsPartitionOf}
use Rattle.pf_graph.specs.Best.{IsStrength}
use Rattle.pf_strength.specs.Strength.{IsStrengthShape, CertifiesStrength}
use Rattle.pf_strength.specs.Newton.{IsLast}
use Rattle.pf_strength.proofs.Steps.{same_labels}
use Rattle.pf_strength.proofs.strength.Strength.of.Goals as goal

pub find-level-requires-clause-single : goal.find-level-requires-clause-single
find-level-requires-clause-single c =
    let P : List ℕ → Type 0 = λ l. IsPartitionOf l c.in_ok-parts.parts in
    let of = subst P (c.labels.ensures.value ∙ c.partition.ensures) c.in_ok-parts.ensures in
    sym (ap parts (same_labels _ _ _ c.in_ok-forest.ensures.labels of)) ∙ c.in_ok-forest.ensures.single

pub read_off-requires : goal.read_off-requires
read_off-requires c =
    let P : WeightedGraph → Type 0 = λ g. IsLast g c.find-level.result c.find-level.new.best c.find-level.new.forest in
    subst P (sym c.find-level.ensures.graph) c.find-level.ensures

pub returns-clause-shape : goal.returns-clause-shape
returns-clause-shape c =
    let P : WeightedGraph → Type 0 = λ g. IsStrengthShape g c.in_ok-answer.answer in
    subst P c.find-level.ensures.graph c.in_ok-answer.ensures.shape

pub returns-clause-certified : goal.returns-clause-certified
returns-clause-certified c =
    let P : WeightedGraph → Type 0 = λ g. CertifiesStrength g c.in_ok-answer.answer in
    subst P c.find-level.ensures.graph c.in_ok-answer.ensures.certified

pub returns-clause-strength : goal.returns-clause-strength
returns-clause-strength c =
    let P : WeightedGraph → Type 0 = λ g. IsStrength g c.in_ok-answer.answer.level c.in_ok-answer.answer.parts in
    subst P c.find-level.ensures.graph c.in_ok-answer.ensures.strength
