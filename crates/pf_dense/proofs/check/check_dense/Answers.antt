use Rattle.std.proofs.Common.{◌≡◌, true, length, ap, refl, sym, ◌∙◌}
use Rattle.std.proofs.lemmas.Bool.{false≢true, OnTrue_from}
use Rattle.pf_dense.specs.Densest.{IsDensest}
use Rattle.pf_dense.specs.Certificate.{CertifiesDense}
use Rattle.pf_dense.proofs.Soundness.{certificate_proves}
use Rattle.pf_dense.proofs.ChargingLemmas.{charges_of, charges_to, within_of, allowed_of}
use Rattle.pf_dense.proofs.DropLemmas.{certified, carried, rest_of}
use Rattle.pf_dense.proofs.check.check_dense.Goals as goal

pub write_charged-requires-clause-charges : goal.write_charged-requires-clause-charges
write_charged-requires-clause-charges c =
    charges_of c.args.graph.now c.density-at.result.now c.get-charges.result.now (ap length (c.get-charges.ensures ∙ c.charges.ensures) ∙ c.requires.charges)
    (c.if-not-are_charges.ensures.0 refl)

pub returns-then-not-are_charges-clause-exact : goal.returns-then-not-are_charges-clause-exact
returns-then-not-are_charges-clause-exact c =
    let f = c.get-chosen.ensures ∙ c.chosen.ensures in
    let h = c.get-charges.ensures ∙ c.charges.ensures in (
      λ told. absurd (false≢true told),
      λ k. c.if-not-are_charges.ensures.1
          (charges_to c.args.graph.now c.density-at.result.now c.get-charges.result.now
          (carried c.args.graph.now _ _ _ _ _ _ c.density-at.ensures f h k).charges_are),
    )

pub returns-then-not-are_within-clause-exact : goal.returns-then-not-are_within-clause-exact
returns-then-not-are_within-clause-exact c =
    let f = c.get-chosen.ensures ∙ c.chosen.ensures in
    let h = c.get-charges.ensures ∙ c.charges.ensures in (
      λ told. absurd (false≢true told),
      λ k. c.if-not-are_within.ensures.1
          (allowed_of c.args.graph.now c.density-at.result.now c.get-charges.result.now c.write_charged.new.sums c.write_charged.ensures
          (carried c.args.graph.now _ _ _ _ _ _ c.density-at.ensures f h k).within),
    )

pub returns-then-not-is_rest-clause-exact : goal.returns-then-not-is_rest-clause-exact
returns-then-not-is_rest-clause-exact c =
    let f = c.get-chosen.ensures ∙ c.chosen.ensures in
    let h = c.get-charges.ensures ∙ c.charges.ensures in (
      λ told. absurd (false≢true told),
      λ k. c.if-not-is_rest.ensures.1
          (rest_of c.args.graph.now c.density-at.result.now c.get-chosen.result.now c.mark_dropped.new.marks c.get-charges.result.now c.mark_dropped.ensures.dropped
          (carried c.args.graph.now _ _ _ _ _ _ c.density-at.ensures f h k)),
    )

certificate : (c : goal.After-has_some) → c.has_some.result ≡ true →
    CertifiesDense c.args.graph.now c.args.answer.now.density c.args.answer.now.chosen c.args.answer.now.charges
certificate c told =
    let f = c.get-chosen.ensures ∙ c.chosen.ensures in
    let h = c.get-charges.ensures ∙ c.charges.ensures in
    let unit = c.q.ensures.bounds.parameter in
    let a = charges_of c.args.graph.now c.density-at.result.now c.get-charges.result.now (ap length h ∙ c.requires.charges) (c.if-not-are_charges.ensures.0 refl) in
    carried c.args.graph.now _ _ _ _ _ _ (sym c.density-at.ensures) (sym f) (sym h)
    (certified c.args.graph.now c.density-at.result.now c.get-chosen.result.now c.mark_dropped.new.marks c.get-charges.result.now
    unit (ap length f ∙ c.requires.chosen) a
    (within_of c.args.graph.now c.density-at.result.now c.get-charges.result.now c.write_charged.new.sums c.write_charged.ensures (c.if-not-are_within.ensures.0 refl))
    c.mark_dropped.ensures.dropped (c.if-not-is_rest.ensures.0 refl) (let some = c.has_some.ensures.0 told in record { vertex = some.0; held = some.1 }))

pub returns-clause-exact : goal.returns-clause-exact
returns-clause-exact c =
    let f = c.get-chosen.ensures ∙ c.chosen.ensures in
    let h = c.get-charges.ensures ∙ c.charges.ensures in (
      λ told. certificate c told,
      λ k. (let some = (carried c.args.graph.now _ _ _ _ _ _ c.density-at.ensures f h k).some in c.has_some.ensures.1 (some.vertex, some.held)),
    )

pub returns-clause-best : goal.returns-clause-best
returns-clause-best c =
    OnTrue_from c.has_some.result (IsDensest c.args.graph.now c.args.answer.now.density c.args.answer.now.chosen)
    (λ told. certificate_proves c.args.graph.now _ _ _ c.vertices.ensures.limits.graph (certificate c told))
