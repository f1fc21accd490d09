use Rattle.std.proofs.Common.{refl, subst}
use Rattle.pf_model.specs.Fraction.{Fraction}
use Rattle.pf_graph.specs.WeightedGraph.{WeightedGraph}
use Rattle.pf_reinforce.specs.Answer.{Answers}
use Rattle.pf_reinforce.specs.Text.{reinforcement_text}
use Rattle.pf_reinforce.specs.Right.{IsRightReinforcement}
use Rattle.pf_reinforce.proofs.Printed.{text_shape}
use Rattle.pf_top.proofs.commands.reinforce.ReinforceJob.solve.Goals as goal

pub returns-clause-right : goal.returns-clause-right
returns-clause-right c =
    let Q : Fraction → Type 0 = λ x. Answers c.graph.result.now x c.in_ok-answer.answer in
    let means = subst Q c.self.view_is c.in_ok-answer.ensures in
    let P : WeightedGraph → Type 0 = λ g. IsRightReinforcement c.args.self.now g (reinforcement_text c.in_ok-answer.answer) in
    subst P c.graph.ensures.value (record { answer = c.in_ok-answer.answer; means = means; text_is = refl })

pub returns-clause-found : goal.returns-clause-found
returns-clause-found c =
    let Q : Fraction → Type 0 = λ x. Answers c.graph.result.now x c.in_ok-answer.answer in
    text_shape c.graph.result.now c.args.self.now c.in_ok-answer.answer (subst Q c.self.view_is c.in_ok-answer.ensures)
