use Rattle.std.proofs.Common.{refl, subst}
use Rattle.pf_graph.specs.WeightedGraph.{WeightedGraph}
use Rattle.pf_strength.specs.Text.{strength_text}
use Rattle.pf_strength.specs.Right.{IsRightStrength}
use Rattle.pf_top.proofs.commands.strength.StrengthJob.solve.Goals as goal

pub returns-clause-right : goal.returns-clause-right
returns-clause-right c =
    let P : WeightedGraph → Type 0 = λ g. IsRightStrength g (strength_text c.in_ok-answer.answer) in
    subst P c.graph.ensures.value (record {
      answer = c.in_ok-answer.answer;
      shape = c.in_ok-answer.ensures.shape;
      best = c.in_ok-answer.ensures.strength;
      certificate = c.in_ok-answer.ensures.certified;
      text_is = refl;
    })
