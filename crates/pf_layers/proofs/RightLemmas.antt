-- A right answer has a right text.
use Rattle.std.proofs.Common.{Result, Ok, Err, refl}
use Rattle.std.specs.Prelude.{IfOk}
use Rattle.pf_graph.specs.WeightedGraph.{WeightedGraph}
use Rattle.pf_closure.specs.Problem.{ClosureProblem}
use Rattle.pf_layers.specs.declared.problem.LayerProblem.TheVariants.{Graph, Closure}
use Rattle.pf_layers.specs.Answer.{LayersAnswer, IsDenseAnswer, IsRatioAnswer}
use Rattle.pf_layers.specs.Text.{layers_text}
use Rattle.pf_layers.specs.Right.{IsRightLayers}

pub right_dense : {E : Type 0} (g : WeightedGraph) (result : Result LayersAnswer E) → IfOk result (IsDenseAnswer g) → IfOk result (λ answer. IsRightLayers (Graph g) (layers_text answer))
right_dense g (Ok answer) right = record { answer = answer; right = right; text_is = refl }
right_dense g (Err e) right = tt

pub right_ratio : {E : Type 0} (p : ClosureProblem) (result : Result LayersAnswer E) → IfOk result (IsRatioAnswer p) → IfOk result (λ answer. IsRightLayers (Closure p) (layers_text answer))
right_ratio p (Ok answer) right = record { answer = answer; right = right; text_is = refl }
right_ratio p (Err e) right = tt
