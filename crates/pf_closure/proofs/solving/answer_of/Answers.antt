use Rattle.std.proofs.Common.{◌≡◌, sym, subst, ◌∙◌}
use Rattle.pf_closure.specs.Certificate.{IsRouting}
use Rattle.pf_closure.specs.Reduction.{routing_of}
use Rattle.pf_closure.proofs.NewtonSteps.{flow_end}
use Rattle.pf_closure.proofs.solving.answer_of.Goals as goal

pub choose-requires-clause-routing : goal.choose-requires-clause-routing
choose-requires-clause-routing c =
    let e : c.deref.result.now ≡ routing_of c.args.items.now c.args.flow.now =
    c.deref.ensures.value ∙ c.in_ok-routing.ensures.items ∙ flow_end c.args.items.now c.args.flow.now c.items-count.result c.items-count.ensures.value in
    subst (IsRouting c.args.items.now) (sym e) c.requires.routing
