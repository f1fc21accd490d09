-- Layers as an answer, and what is right.
use Rattle.std.specs.Prelude.{◌≡◌, ℕ, ◌^◌, ℤ, List, length, All}
use Rattle.pf_model.specs.Fraction.{Fraction}
use Rattle.pf_model.specs.Answer.{IsFractionShape, IsWithinSize}
use Rattle.pf_graph.specs.WeightedGraph.{WeightedGraph}
use Rattle.pf_closure.specs.Problem.{ClosureProblem}
use Rattle.pf_layers.specs.declared.problem.LayerProblem.{LayerProblem}
use Rattle.pf_layers.specs.declared.problem.LayerProblem.TheVariants.{Graph, Closure}
use Rattle.pf_layers.specs.DenseLayers.{IsDenseLayers}
use Rattle.pf_layers.specs.RatioLayers.{IsRatioLayers}

-- a level for each layer, and beside each element the number of its layer
pub record LayersAnswer : Type 0 where
  pub levels : List Fraction
  pub layers : List ℤ

-- its shape for n elements, whatever it says: levels in lowest terms within their widths, and a number for each element, of a size below 2 ^ 104
pub record IsLayersShape (n : ℕ) (answer : LayersAnswer) : Type 0 where
  pub levels : All IsFractionShape answer.levels
  pub full : length answer.layers ≡ n
  pub each : All (IsWithinSize (2 ^ 104)) answer.layers

-- the levels are in lowest terms, within the widths that the code keeps
pub record IsDenseAnswer (g : WeightedGraph) (answer : LayersAnswer) : Type 0 where
  pub shape : All IsFractionShape answer.levels
  pub right : IsDenseLayers g answer.levels answer.layers

pub record IsRatioAnswer (p : ClosureProblem) (answer : LayersAnswer) : Type 0 where
  pub shape : All IsFractionShape answer.levels
  pub right : IsRatioLayers p answer.levels answer.layers

-- the answer is right for a problem of either kind
abbrev pub IsLayersAnswer : LayerProblem → LayersAnswer → Type 0
IsLayersAnswer (Graph g) answer = IsDenseAnswer g answer
IsLayersAnswer (Closure p) answer = IsRatioAnswer p answer
