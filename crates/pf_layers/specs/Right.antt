-- Which texts are right answers.
use Rattle.std.specs.Prelude.{◌≡◌, ℕ, List}
use Rattle.pf_graph.specs.WeightedGraph.{WeightedGraph}
use Rattle.pf_closure.specs.Problem.{ClosureProblem}
use Rattle.pf_layers.specs.declared.problem.LayerProblem.{LayerProblem}
use Rattle.pf_layers.specs.declared.problem.LayerProblem.TheVariants.{Graph, Closure}
use Rattle.pf_layers.specs.Answer.{LayersAnswer, IsDenseAnswer, IsRatioAnswer}
use Rattle.pf_layers.specs.Text.{layers_text}

-- `layers` of a graph: in each layer the greatest density beside those before it
pub record IsRightDenseLayers (g : WeightedGraph) (text : List ℕ) : Type 0 where
  pub answer : LayersAnswer
  pub right : IsDenseAnswer g answer
  pub text_is : text ≡ layers_text answer

-- `layers` of items: in each layer the least ratio beside those before it
pub record IsRightRatioLayers (p : ClosureProblem) (text : List ℕ) : Type 0 where
  pub answer : LayersAnswer
  pub right : IsRatioAnswer p answer
  pub text_is : text ≡ layers_text answer

-- `layers`
abbrev pub IsRightLayers : LayerProblem → List ℕ → Type 0
IsRightLayers (Graph g) text = IsRightDenseLayers g text
IsRightLayers (Closure p) text = IsRightRatioLayers p text
