use Rattle.std.proofs.Common.{List, length, refl, arith, ap, sym, ◌∙◌, subst}
use Rattle.std.specs.Prelude.{All}
use Rattle.pf_model.specs.Answer.{IsFractionShape}
use Rattle.pf_model.specs.Fraction.{Fraction}
use Rattle.pf_graph.specs.Labels.{parts}
use Rattle.pf_principal.specs.Principal.{PrincipalAnswer}
use Rattle.pf_principal.proofs.Certificate.{certificate_is_principal}
use Rattle.pf_principal.proofs.Levels.{whole_stays, some_parts, searched, zero_served, top_served, ends_rise}
use Rattle.pf_principal.proofs.Filled.{is_answer, certified_of, fits_of}
use Rattle.pf_principal.proofs.principal.Principal.of.Goals as goal

pub top_level-high-requires-clause-full : goal.top_level-high-requires-clause-full
top_level-high-requires-clause-full c = ap length c.partition.ensures ∙ c.in_ok-forest.ensures.labels.full

pub top_level-high-requires-clause-single : goal.top_level-high-requires-clause-single
top_level-high-requires-clause-single c = ap parts c.partition.ensures ∙ c.in_ok-forest.ensures.single

pub envelope-requires-clause-interval : goal.envelope-requires-clause-interval
envelope-requires-clause-interval c = ends_rise c.args.graph.now c.new-low.result c.top_level-high.result c.frame.ensures.limits.graph (c.new-low.ensures.value ∙ whole_stays _) c.top_level-high.ensures

pub envelope-requires-clause-low_served : goal.envelope-requires-clause-low_served
envelope-requires-clause-low_served c = zero_served c.new-low.result (c.new-low.ensures.value ∙ whole_stays _)

pub envelope-requires-clause-high_served : goal.envelope-requires-clause-high_served
envelope-requires-clause-high_served c = top_served c.args.graph.now c.top_level-high.result c.frame.ensures.limits.graph c.top_level-high.ensures

pub levels_of-requires : goal.levels_of-requires
levels_of-requires c =
    let below = ends_rise c.args.graph.now c.new-low.result c.top_level-high.result c.frame.ensures.limits.graph (c.new-low.ensures.value ∙ whole_stays _) c.top_level-high.ensures in
    let some = some_parts (λ p. record { right = p.right; line = p.member.line }) c.in_ok-parts.parts.items c.new-low.result c.top_level-high.result below c.in_ok-parts.ensures.envelope.covers in
    let e = ap length c.as_slice.ensures.value in
    omega (arith, some, e)

pub with_tables-requires : goal.with_tables-requires
with_tables-requires c =
    let below = ends_rise c.args.graph.now c.new-low.result c.top_level-high.result c.frame.ensures.limits.graph (c.new-low.ensures.value ∙ whole_stays _) c.top_level-high.ensures in
    let some = some_parts (λ p. record { right = p.right; line = p.member.line }) c.in_ok-parts.parts.items c.new-low.result c.top_level-high.result below c.in_ok-parts.ensures.envelope.covers in
    let found = searched c.args.graph.now c.in_ok-forest.forest.graph (λ p. p.right) (λ p. p.member.line) (λ p. p.member.partition) c.in_ok-parts.parts.items c.as_slice.result.now
    c.new-low.result c.top_level-high.result c.in_ok-levels.levels c.in_ok-partitions.partitions c.frame.ensures.limits.graph c.in_ok-forest.ensures.graph
    (c.new-low.ensures.value ∙ whole_stays _) c.top_level-high.ensures c.as_slice.ensures.value some c.in_ok-parts.ensures.members c.in_ok-parts.ensures.envelope c.in_ok-levels.ensures.levels
    c.in_ok-partitions.ensures in
    found.levels_are

pub returns-clause-certified : goal.returns-clause-certified
returns-clause-certified c =
    let below = ends_rise c.args.graph.now c.new-low.result c.top_level-high.result c.frame.ensures.limits.graph (c.new-low.ensures.value ∙ whole_stays _) c.top_level-high.ensures in
    let some = some_parts (λ p. record { right = p.right; line = p.member.line }) c.in_ok-parts.parts.items c.new-low.result c.top_level-high.result below c.in_ok-parts.ensures.envelope.covers in
    let found = searched c.args.graph.now c.in_ok-forest.forest.graph (λ p. p.right) (λ p. p.member.line) (λ p. p.member.partition) c.in_ok-parts.parts.items c.as_slice.result.now
    c.new-low.result c.top_level-high.result c.in_ok-levels.levels c.in_ok-partitions.partitions c.frame.ensures.limits.graph c.in_ok-forest.ensures.graph
    (c.new-low.ensures.value ∙ whole_stays _) c.top_level-high.ensures c.as_slice.ensures.value some c.in_ok-parts.ensures.members c.in_ok-parts.ensures.envelope c.in_ok-levels.ensures.levels
    c.in_ok-partitions.ensures in
    let a = is_answer c.args.graph.now c.envelope.new.family.forest.graph c.in_ok-levels.levels c.in_ok-levels.levels c.in_ok-partitions.partitions c.in_ok-answer.answer.vectors c.in_ok-answer.answer.splits c.in_ok-answer.answer
    found.best (c.envelope.ensures.same ∙ c.in_ok-forest.ensures.graph) refl c.in_ok-answer.ensures.filled c.in_ok-answer.ensures.answer in
    certified_of c.args.graph.now c.in_ok-answer.answer a.best a.filled

pub returns-clause-shape : goal.returns-clause-shape
returns-clause-shape c =
    let below = ends_rise c.args.graph.now c.new-low.result c.top_level-high.result c.frame.ensures.limits.graph (c.new-low.ensures.value ∙ whole_stays _) c.top_level-high.ensures in
    let some = some_parts (λ p. record { right = p.right; line = p.member.line }) c.in_ok-parts.parts.items c.new-low.result c.top_level-high.result below c.in_ok-parts.ensures.envelope.covers in
    let found = searched c.args.graph.now c.in_ok-forest.forest.graph (λ p. p.right) (λ p. p.member.line) (λ p. p.member.partition) c.in_ok-parts.parts.items c.as_slice.result.now
    c.new-low.result c.top_level-high.result c.in_ok-levels.levels c.in_ok-partitions.partitions c.frame.ensures.limits.graph c.in_ok-forest.ensures.graph
    (c.new-low.ensures.value ∙ whole_stays _) c.top_level-high.ensures c.as_slice.ensures.value some c.in_ok-parts.ensures.members c.in_ok-parts.ensures.envelope c.in_ok-levels.ensures.levels
    c.in_ok-partitions.ensures in
    let a = is_answer c.args.graph.now c.envelope.new.family.forest.graph c.in_ok-levels.levels c.in_ok-levels.levels c.in_ok-partitions.partitions c.in_ok-answer.answer.vectors c.in_ok-answer.answer.splits c.in_ok-answer.answer
    found.best (c.envelope.ensures.same ∙ c.in_ok-forest.ensures.graph) refl c.in_ok-answer.ensures.filled c.in_ok-answer.ensures.answer in
    let P : List Fraction → Type 0 = λ xs. All IsFractionShape xs in
    record {
      levels = subst P (sym (ap (λ (b : PrincipalAnswer). b.levels) c.in_ok-answer.ensures.answer)) c.in_ok-levels.ensures.shape;
      fits = fits_of c.args.graph.now c.in_ok-answer.answer a.best a.filled;
    }

pub returns-clause-principal : goal.returns-clause-principal
returns-clause-principal c =
    let below = ends_rise c.args.graph.now c.new-low.result c.top_level-high.result c.frame.ensures.limits.graph (c.new-low.ensures.value ∙ whole_stays _) c.top_level-high.ensures in
    let some = some_parts (λ p. record { right = p.right; line = p.member.line }) c.in_ok-parts.parts.items c.new-low.result c.top_level-high.result below c.in_ok-parts.ensures.envelope.covers in
    let found = searched c.args.graph.now c.in_ok-forest.forest.graph (λ p. p.right) (λ p. p.member.line) (λ p. p.member.partition) c.in_ok-parts.parts.items c.as_slice.result.now
    c.new-low.result c.top_level-high.result c.in_ok-levels.levels c.in_ok-partitions.partitions c.frame.ensures.limits.graph c.in_ok-forest.ensures.graph
    (c.new-low.ensures.value ∙ whole_stays _) c.top_level-high.ensures c.as_slice.ensures.value some c.in_ok-parts.ensures.members c.in_ok-parts.ensures.envelope c.in_ok-levels.ensures.levels
    c.in_ok-partitions.ensures in
    let a = is_answer c.args.graph.now c.envelope.new.family.forest.graph c.in_ok-levels.levels c.in_ok-levels.levels c.in_ok-partitions.partitions c.in_ok-answer.answer.vectors c.in_ok-answer.answer.splits c.in_ok-answer.answer
    found.best (c.envelope.ensures.same ∙ c.in_ok-forest.ensures.graph) refl c.in_ok-answer.ensures.filled c.in_ok-answer.ensures.answer in
    certificate_is_principal c.args.graph.now c.in_ok-answer.answer c.frame.ensures.limits.graph (fits_of c.args.graph.now c.in_ok-answer.answer a.best a.filled) (certified_of c.args.graph.now c.in_ok-answer.answer a.best a.filled)
