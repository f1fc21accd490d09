use Rattle.std.proofs.Common.{◌≡◌, ℕ, Bool, true, List, Result, Ok, Err}
use Rattle.std.specs.Prelude.{◌↔◌, IfOk}
use Rattle.pf_graph.specs.WeightedGraph.{WeightedGraph}
use Rattle.pf_graph.specs.Limits.{IsWithinLimits}
use Rattle.pf_strength.specs.Strength.{StrengthAnswer, IsStrengthShape, CertifiesStrength}
use Rattle.pf_strength.specs.Text.{strength_text}
use Rattle.pf_strength.specs.Right.{IsCertifiedStrength}
use Rattle.pf_strength.proofs.SameAnswers.{certified_text}
use Rattle.pf_strength.proofs.check.is_certified_strength_text.Goals as goal

verdict : {E : Type 0} (g : WeightedGraph) (text : List ℕ) (answer : StrengthAnswer) (r : Result Bool E) → IsWithinLimits g → IsStrengthShape g answer → text ≡ strength_text answer
    → IfOk r (λ holds. (holds ≡ true) ↔ CertifiesStrength g answer) → IfOk r (λ holds. (holds ≡ true) ↔ IsCertifiedStrength g text)
verdict g text answer (Ok holds) limits shape text_is exact = certified_text g text answer holds limits shape text_is exact
verdict g text answer (Err e) limits shape text_is exact = tt

pub returns : goal.returns
returns c =
    verdict c.args.graph.now c.args.text.now c.in-Ok.answer c.is_certified.result c.vertices.ensures.limits c.in-Ok.ensures.shape c.in-Ok.ensures.spelled c.is_certified.ensures
