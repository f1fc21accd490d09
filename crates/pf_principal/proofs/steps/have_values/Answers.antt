use Rattle.std.proofs.Common.{length, get_or, refl, arith, ap, ◌∙◌, below_more}
use Rattle.pf_principal.specs.Reading.{HasValue, before_step}
use Rattle.pf_principal.proofs.StepLemmas.{before_full, value_seen}
use Rattle.pf_principal.proofs.steps.have_values.Goals as goal

pub steps-init : goal.steps-init
steps-init c = λ j d low. absurd (omega (arith, low))

pub has_value-requires : goal.has_value-requires
has_value-requires c =
    ap length c.before-in-steps.ensures ∙ before_full c.args.graph.now.nodes c.args.first.now c.args.steps.now c.steps.i c.requires.first c.requires.shape (omega arith)

pub steps-preserved : goal.steps-preserved
steps-preserved c = λ j d low.
    below_more (λ k. HasValue c.args.graph.now (before_step c.args.first.now c.args.steps.now k) (get_or c.args.steps.now k d)) c.steps.i (λ k less. c.steps.invariant k d less)
    (value_seen c.args.graph.now c.before-in-steps.result.now (before_step c.args.first.now c.args.steps.now c.steps.i) c.args.steps.now c.steps.i c.index-steps-i.result d c.before-in-steps.ensures c.index-steps-i.is
    c.steps-test.true (c.if-not-has_value.ensures.0 refl)) j low

pub returns : goal.returns
returns c = (λ told. record { each = λ i d low. c.steps.invariant i d (omega (arith, low)) }, λ h. refl)
