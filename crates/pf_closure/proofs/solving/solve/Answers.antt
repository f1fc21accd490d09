use Rattle.pf_closure.proofs.NewtonSteps.{flow_length, point_length, routing_is, newton_answers}
use Rattle.pf_closure.proofs.solving.solve.Goals as goal

pub answer_of-requires-clause-full : goal.answer_of-requires-clause-full
answer_of-requires-clause-full c =
    flow_length c.args.items.now c.iterate-ratio.new.flow c.items.ensures.items.problem
    (point_length c.args.items.now c.iterate-ratio.result c.iterate-ratio.new.next c.iterate-ratio.new.flow c.iterate-ratio.ensures.point)

pub answer_of-requires-clause-routing : goal.answer_of-requires-clause-routing
answer_of-requires-clause-routing c =
    routing_is c.args.items.now c.iterate-ratio.result c.iterate-ratio.new.flow c.items.ensures.items c.iterate-ratio.ensures.point.parameter
    c.iterate-ratio.ensures.small c.iterate-ratio.ensures.point.flow_is

pub returns : goal.returns
returns c =
    let a = newton_answers c.args.items.now c.iterate-ratio.result c.iterate-ratio.new.side c.iterate-ratio.new.next c.iterate-ratio.new.flow
    c.in_ok-answer.answer c.items.ensures.items c.iterate-ratio.ensures.newton c.iterate-ratio.ensures.point c.iterate-ratio.ensures.none
    c.iterate-ratio.ensures.small c.iterate-ratio.ensures.shape c.in_ok-answer.ensures.ratio c.in_ok-answer.ensures.routing c.in_ok-answer.ensures.chosen in
    record { least = a.least; certificate = a.certificate; shape = a.shape }
