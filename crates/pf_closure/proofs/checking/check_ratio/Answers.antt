use Rattle.std.proofs.Common.{◌≡◌, true, length, ap, refl, sym, ◌∙◌}
use Rattle.std.proofs.lemmas.Bool.{false≢true, OnTrue_from}
use Rattle.pf_closure.specs.Problem.{IsLeastRatio}
use Rattle.pf_closure.specs.Certificate.{CertifiesRatio}
use Rattle.pf_closure.proofs.Soundness.{certificate_proves}
use Rattle.pf_closure.proofs.DropLemmas.{certified, carried, nonneg_of, rest_of}
use Rattle.pf_closure.proofs.checking.check_ratio.Goals as goal

pub returns-then-not-are_nonneg-clause-exact : goal.returns-then-not-are_nonneg-clause-exact
returns-then-not-are_nonneg-clause-exact c =
    let f = c.get-chosen.ensures ∙ c.chosen.ensures in
    let g = c.get-routing.ensures ∙ c.routing.ensures in (
      λ told. absurd (false≢true told),
      λ k. c.if-not-are_nonneg.ensures.1
          (nonneg_of c.args.items.now c.ratio-at.result.now c.get-chosen.result.now c.get-routing.result.now c.write_slacks.new.sums c.write_slacks.ensures
          (carried c.args.items.now _ _ _ _ _ _ c.ratio-at.ensures f g k)),
    )

pub returns-then-not-is_rest-clause-exact : goal.returns-then-not-is_rest-clause-exact
returns-then-not-is_rest-clause-exact c =
    let f = c.get-chosen.ensures ∙ c.chosen.ensures in
    let g = c.get-routing.ensures ∙ c.routing.ensures in (
      λ told. absurd (false≢true told),
      λ k. c.if-not-is_rest.ensures.1
          (rest_of c.args.items.now c.ratio-at.result.now c.get-chosen.result.now c.mark_dropped.new.marks c.get-routing.result.now
          (c.mark_dropped.ensures.dropped c.ratio-at.result.now c.write_slacks.ensures)
          (carried c.args.items.now _ _ _ _ _ _ c.ratio-at.ensures f g k)),
    )

certificate : (c : goal.After-has_some) → c.has_some.result ≡ true →
    CertifiesRatio c.args.items.now c.args.answer.now.ratio c.args.answer.now.chosen c.args.answer.now.routing
certificate c told =
    let f = c.get-chosen.ensures ∙ c.chosen.ensures in
    let g = c.get-routing.ensures ∙ c.routing.ensures in
    let unit = c.q.ensures.bounds.parameter in
    carried c.args.items.now _ _ _ _ _ _ (sym c.ratio-at.ensures) (sym f) (sym g)
    (certified c.args.items.now c.ratio-at.result.now c.get-chosen.result.now c.mark_dropped.new.marks c.get-routing.result.now c.write_slacks.new.sums
    unit (ap length f ∙ c.requires.chosen) (ap length g ∙ c.requires.routing) (c.if-not-is_routing.ensures.0 refl) c.write_slacks.ensures
    (c.if-not-are_nonneg.ensures.0 refl) (c.mark_dropped.ensures.dropped c.ratio-at.result.now c.write_slacks.ensures)
    (c.if-not-is_rest.ensures.0 refl) (let some = c.has_some.ensures.0 told in record { item = some.0; held = some.1 }))

pub returns-clause-exact : goal.returns-clause-exact
returns-clause-exact c =
    let f = c.get-chosen.ensures ∙ c.chosen.ensures in
    let g = c.get-routing.ensures ∙ c.routing.ensures in (
      λ told. certificate c told,
      λ k. (let some = (carried c.args.items.now _ _ _ _ _ _ c.ratio-at.ensures f g k).some in c.has_some.ensures.1 (some.item, some.held)),
    )

pub returns-clause-best : goal.returns-clause-best
returns-clause-best c =
    OnTrue_from c.has_some.result (IsLeastRatio c.args.items.now c.args.answer.now.ratio c.args.answer.now.chosen)
    (λ told. certificate_proves c.args.items.now _ _ _ c.items.ensures.items.problem (certificate c told))
