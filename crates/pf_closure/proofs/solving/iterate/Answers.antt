use Rattle.std.proofs.Common.{arith, ap, sym, subst, ◌∙◌}
use Rattle.std.proofs.lemmas.Bool.{both_ways}
use Rattle.pf_model.specs.Cut.{size}
use Rattle.pf_model.specs.Curve.{IsPoint}
use Rattle.pf_model.specs.Network.{Network}
use Rattle.pf_closure.specs.Newton.{IsNewton}
use Rattle.pf_closure.specs.Reduction.{items_of}
use Rattle.pf_closure.proofs.LeastCuts.{all_off}
use Rattle.pf_closure.proofs.NetBuilt.{net_monotone}
use Rattle.pf_closure.proofs.NewtonSteps.{newton_whole, newton_goes_on}
use Rattle.pf_closure.proofs.solving.iterate.Goals as goal

pub steps-init : goal.steps-init
steps-init c =
    let p = c.args.items.now in
    let P : Network → Type 0 = λ net. IsPoint net c.ratio_of-ratio.result c.write_point.new.side c.write_point.new.flow in
    record {
      same = c.write_point.ensures.same ∙ c.requires.net;
      newton = newton_whole p c.ratio_of-ratio.result c.args.side.now c.items.ensures.items.problem c.requires.whole c.ratio_of-ratio.ensures.inside
          c.ratio_of-ratio.ensures.ratio;
      point = subst P c.requires.net c.write_point.ensures.point;
      small = c.ratio_of-ratio.ensures.small;
      shape = c.ratio_of-ratio.ensures.shape;
    }

pub steps-smaller : goal.steps-smaller
steps-smaller c =
    let step = newton_goes_on c.args.items.now c.steps.ratio c.ratio_of-ratio-in-steps.result c.steps.side c.steps.next c.items.ensures.items
    (net_monotone c.args.items.now c.items.ensures.items) c.steps.invariant.newton c.steps.invariant.point.smallest
    (c.has_item.ensures.0 c.steps-test.true) c.ratio_of-ratio-in-steps.ensures.inside c.ratio_of-ratio-in-steps.ensures.ratio in
    let less = step.less in
    let e = ap size c.copy_from_slice.ensures.after in
    omega (arith, less, e)

pub steps-preserved : goal.steps-preserved
steps-preserved c =
    let step = newton_goes_on c.args.items.now c.steps.ratio c.ratio_of-ratio-in-steps.result c.steps.side c.steps.next c.items.ensures.items
    (net_monotone c.args.items.now c.items.ensures.items) c.steps.invariant.newton c.steps.invariant.point.smallest
    (c.has_item.ensures.0 c.steps-test.true) c.ratio_of-ratio-in-steps.ensures.inside c.ratio_of-ratio-in-steps.ensures.ratio in
    let P : Network → Type 0 = λ net. IsPoint net c.ratio_of-ratio-in-steps.result c.write_point-in-steps.new.side c.write_point-in-steps.new.flow in
    record {
      same = c.write_point-in-steps.ensures.same ∙ c.steps.invariant.same;
      newton = subst (IsNewton c.args.items.now c.ratio_of-ratio-in-steps.result) (sym c.copy_from_slice.ensures.after) step.newton;
      point = subst P c.steps.invariant.same c.write_point-in-steps.ensures.point;
      small = c.ratio_of-ratio-in-steps.ensures.small;
      shape = c.ratio_of-ratio-in-steps.ensures.shape;
    }

pub returns-clause-none : goal.returns-clause-none
returns-clause-none c =
    all_off (items_of c.args.items.now c.steps.next) (λ some. both_ways _ c.steps-test.false (c.has_item.ensures.1 some))
