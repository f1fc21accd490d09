use Rattle.std.proofs.Common.{arith, ◌∙◌}
use Rattle.std.proofs.lemmas.Int.{ints}
use Rattle.pf_dense.proofs.OneAnswer.{costs_some}
use Rattle.pf_dense.proofs.NewtonSteps.{all_vertices, newton_begins, newton_smaller, newton_goes_on, newton_ends, measure_falls}
use Rattle.pf_dense.proofs.DensityLemmas.{positive_of}
use Rattle.pf_dense.proofs.newton.settle.Goals as goal

pub density_of-density-requires : goal.density_of-density-requires
density_of-density-requires c = all_vertices c.args.graph.now c.args.set.now c.vertices.ensures.limits.graph c.requires.all

pub steps-init : goal.steps-init
steps-init c =
    let g = c.args.graph.now in
    let limits = c.vertices.ensures.limits in
    record {
      newton = newton_begins g c.density_of-density.result c.args.set.now limits.graph (positive_of g limits) c.requires.all c.density_of-density.ensures.inside.parameter
          c.density_of-density.ensures.density;
      inside = c.density_of-density.ensures.inside;
      network = c.requires.network;
      nodes = c.requires.nodes;
      arcs = c.requires.arcs;
    }

pub returns-then-is_at_most-clause-best : goal.returns-then-is_at_most-clause-best
returns-then-is_at_most-clause-best c =
    let g = c.args.graph.now in
    let limits = c.vertices.ensures.limits in
    newton_ends g c.steps.density c.step-next.result c.steps.set c.step-next.new.set limits.graph (positive_of g limits) c.steps.invariant.newton c.step-next.ensures.step
    c.step-next.ensures.vertices c.step-next.ensures.within.parameter c.step-next.ensures.density c.if-is_at_most.ensures

pub steps-smaller : goal.steps-smaller
steps-smaller c =
    let g = c.args.graph.now in
    let limits = c.vertices.ensures.limits in
    let heavy = costs_some g c.step-next.new.set limits.graph (positive_of g limits) c.step-next.ensures.vertices in
    measure_falls _ _ (omega (arith, ints, heavy))
    (newton_smaller g c.steps.density c.step-next.result c.steps.set c.step-next.new.set limits.graph (positive_of g limits) c.steps.invariant.newton
    c.step-next.ensures.vertices c.step-next.ensures.within.parameter c.step-next.ensures.density c.if-is_at_most.ensures)

pub steps-preserved : goal.steps-preserved
steps-preserved c =
    let g = c.args.graph.now in
    let limits = c.vertices.ensures.limits in
    record {
      newton = newton_goes_on g c.steps.density c.step-next.result c.steps.set c.step-next.new.set limits.graph (positive_of g limits) c.steps.invariant.newton
          c.step-next.ensures.step c.step-next.ensures.vertices c.step-next.ensures.within.parameter c.step-next.ensures.density c.if-is_at_most.ensures;
      inside = c.step-next.ensures.within;
      network = c.step-next.ensures.same ∙ c.steps.invariant.network;
      nodes = c.step-next.auto.side ∙ c.steps.invariant.nodes;
      arcs = c.step-next.auto.flow ∙ c.steps.invariant.arcs;
    }
