use Rattle.std.proofs.Common.{◌≡◌, ℕ, Bool, true, List, Result, Ok, Err}
use Rattle.std.specs.Prelude.{◌↔◌, IfOk}
use Rattle.pf_graph.specs.WeightedGraph.{WeightedGraph}
use Rattle.pf_dense.specs.Answer.{DenseAnswer, IsDenseShape}
use Rattle.pf_dense.specs.Certificate.{CertifiesDense}
use Rattle.pf_dense.specs.Text.{dense_text}
use Rattle.pf_dense.specs.Right.{IsCertifiedDense}
use Rattle.pf_dense.proofs.SameAnswers.{certified_text}
use Rattle.pf_dense.proofs.check.is_certified_dense_text.Goals as goal

verdict : {E : Type 0} (g : WeightedGraph) (text : List ℕ) (answer : DenseAnswer) (r : Result Bool E) → IsDenseShape g answer → text ≡ dense_text answer
    → IfOk r (λ holds. (holds ≡ true) ↔ CertifiesDense g answer.density answer.chosen answer.charges) → IfOk r (λ holds. (holds ≡ true) ↔ IsCertifiedDense g text)
verdict g text answer (Ok holds) shape text_is exact = certified_text g text answer holds shape text_is exact
verdict g text answer (Err e) shape text_is exact = tt

pub returns : goal.returns
returns c =
    verdict c.args.graph.now c.args.text.now c.in-Ok.answer c.is_certified.result c.in-Ok.ensures.shape c.in-Ok.ensures.spelled
    c.is_certified.ensures
