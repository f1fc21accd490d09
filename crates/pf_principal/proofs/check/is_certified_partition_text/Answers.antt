use Rattle.std.proofs.Common.{◌≡◌, ℕ, Bool, true, List, Result, Ok, Err}
use Rattle.std.specs.Prelude.{◌↔◌, IfOk}
use Rattle.pf_graph.specs.WeightedGraph.{WeightedGraph}
use Rattle.pf_graph.specs.Limits.{IsWithinLimits}
use Rattle.pf_principal.specs.Principal.{PrincipalAnswer, IsPrincipalShape, CertifiesPrincipal}
use Rattle.pf_principal.specs.Text.{principal_text}
use Rattle.pf_principal.specs.Right.{IsCertifiedPrincipal}
use Rattle.pf_principal.proofs.SameAnswers.{certified_text}
use Rattle.pf_principal.proofs.check.is_certified_partition_text.Goals as goal

verdict : {E : Type 0} (g : WeightedGraph) (text : List ℕ) (answer : PrincipalAnswer) (r : Result Bool E) → IsWithinLimits g → IsPrincipalShape g answer → text ≡ principal_text g answer
    → IfOk r (λ holds. (holds ≡ true) ↔ CertifiesPrincipal g answer) → IfOk r (λ holds. (holds ≡ true) ↔ IsCertifiedPrincipal g text)
verdict g text answer (Ok holds) limits shape text_is exact = certified_text g text answer holds limits shape text_is exact
verdict g text answer (Err e) limits shape text_is exact = tt

pub returns : goal.returns
returns c =
    verdict c.args.graph.now c.args.text.now c.in-Ok.answer c.is_certified.result c.vertices.ensures.limits c.in-Ok.ensures.shape c.in-Ok.ensures.text c.is_certified.ensures
