use Rattle.std.proofs.Common.{ℕ, List, refl, sym, ◌∙◌, subst}
use Rattle.std.proofs.lemmas.Bool.{OnTrue_from}
use Rattle.pf_graph.specs.Labels.{IsPartition}
use Rattle.pf_graph.specs.Best.{IsStrength}
use Rattle.pf_strength.specs.Strength.{CertifiesStrength}
use Rattle.pf_strength.proofs.Certificate.{certificate_is_strength}
use Rattle.pf_strength.proofs.Whole.{answer_of, answer_seen, certified_from, splits_from}
use Rattle.pf_strength.proofs.check.check_strength.Goals as goal

pub returns-clause-exact : goal.returns-clause-exact
returns-clause-exact c =
    let g = c.args.graph.now in
    let e = answer_seen c.args.answer.now c.level-level.result.now c.parts-partition.result.now c.get-vector.result.now c.splits.result.now c.level-level.ensures
    c.parts-partition.ensures (c.get-vector.ensures ∙ c.vector.ensures) c.splits.ensures in
    let P : List ℕ → Type 0 = λ l. IsPartition c.args.graph.now.nodes l in
    let partition = subst P (sym c.parts-partition.ensures) c.requires.shape.partition in (
      λ told. subst (CertifiesStrength c.args.graph.now) e
          (certified_from c.args.graph.now (answer_of c.level-level.result.now c.parts-partition.result.now c.get-vector.result.now c.splits.result.now) partition
          c.q-q.ensures.bounds.parameter (c.if-not-is_ratio.ensures.0 refl) (c.if-not-is_in_range.ensures.0 refl) (c.if-not-has_total.ensures.0 refl)
          (c.are_splits.ensures.exact.0 told)),
      λ cert. c.are_splits.ensures.exact.1
          (splits_from c.args.graph.now (answer_of c.level-level.result.now c.parts-partition.result.now c.get-vector.result.now c.splits.result.now)
          (subst (CertifiesStrength c.args.graph.now) (sym e) cert)),
    )

pub returns-clause-strength : goal.returns-clause-strength
returns-clause-strength c =
    let e = answer_seen c.args.answer.now c.level-level.result.now c.parts-partition.result.now c.get-vector.result.now c.splits.result.now c.level-level.ensures
    c.parts-partition.ensures (c.get-vector.ensures ∙ c.vector.ensures) c.splits.ensures in
    let P : List ℕ → Type 0 = λ l. IsPartition c.args.graph.now.nodes l in
    let partition = subst P (sym c.parts-partition.ensures) c.requires.shape.partition in
    OnTrue_from c.are_splits.result (IsStrength c.args.graph.now c.args.answer.now.level c.args.answer.now.parts)
    (λ told. certificate_is_strength c.args.graph.now c.args.answer.now c.frame.ensures.limits.graph c.requires.shape.partition
    (subst (CertifiesStrength c.args.graph.now) e
    (certified_from c.args.graph.now (answer_of c.level-level.result.now c.parts-partition.result.now c.get-vector.result.now c.splits.result.now) partition
    c.q-q.ensures.bounds.parameter (c.if-not-is_ratio.ensures.0 refl) (c.if-not-is_in_range.ensures.0 refl) (c.if-not-has_total.ensures.0 refl)
    (c.are_splits.ensures.exact.0 told))))
