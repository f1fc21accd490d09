use Rattle.std.proofs.Common.{◌++◌, ◌∷◌, [], List, map, take, ap, sym, ◌∙◌}
use Rattle.std.proofs.lemmas.List.{map_more}
use Rattle.pf_model.specs.Fraction.{Fraction}
use Rattle.pf_principal.specs.declared.steps.Step.{Step}
use Rattle.pf_principal.proofs.steps.step_levels.Goals as goal

pub steps-preserved : goal.steps-preserved
steps-preserved c =
    let f : Step → Fraction = λ s. s.level.at in
    let more = map_more f c.args.steps.now c.steps.step-index c.step-item.result c.steps-test.true in
    c.in_ok-push.ensures.added ∙ ap (λ (xs : List Fraction). xs ++ c.step-item.result.level.at ∷ []) c.steps.invariant
    ∙ ap (λ (x : Fraction). map f (take c.steps.step-index c.args.steps.now) ++ x ∷ []) (ap f c.step-item.is) ∙ sym more
