use Rattle.std.proofs.Common.{refl, subst}
use Rattle.pf_graph.specs.WeightedGraph.{WeightedGraph}
use Rattle.pf_principal.specs.Text.{principal_text}
use Rattle.pf_principal.specs.Right.{IsRightPrincipal}
use Rattle.pf_top.proofs.commands.partition.PartitionJob.solve.Goals as goal

pub returns-clause-right : goal.returns-clause-right
returns-clause-right c =
    let P : WeightedGraph → Type 0 = λ g. IsRightPrincipal g (principal_text g c.in_ok-answer.answer) in
    subst P c.graph.ensures.value (record {
      answer = c.in_ok-answer.answer;
      shape = c.in_ok-answer.ensures.shape;
      principal = c.in_ok-answer.ensures.principal;
      certificate = c.in_ok-answer.ensures.certified;
      text_is = refl;
    })
