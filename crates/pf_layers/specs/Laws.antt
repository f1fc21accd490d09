-- What holds of layers.
use Rattle.std.specs.Prelude.{◌≡◌, ℕ, ◌<◌, ℤ, true, false, List, ◌∷◌, length, Err, codes}
use Rattle.pf_model.specs.Fraction.{Fraction, IsEqual, IsLowest}
use Rattle.pf_text.specs.declared.TextBad.TheVariants.{WrongKind}
use Rattle.pf_text.specs.Lines.{Line}
use Rattle.pf_text.specs.Kinds.{is_wrong_kind, problem_of_lines}
use Rattle.pf_graph.specs.WeightedGraph.{WeightedGraph, IsWeightedGraph}
use Rattle.pf_graph.specs.Limits.{IsWithinLimits}
use Rattle.pf_graph.specs.declared.graph.Task.TheVariants.{Densest}
use Rattle.pf_graph.specs.Text.{graph}
use Rattle.pf_dense.specs.Densest.{HasPositiveCosts}
use Rattle.pf_closure.specs.Problem.{ClosureProblem, IsClosureProblem, IsBoundedProblem}
use Rattle.pf_closure.specs.Text.{closure}
use Rattle.pf_layers.specs.declared.problem.LayerProblem.TheVariants.{Graph, Closure}
use Rattle.pf_layers.specs.Problem.{accepted_as, layer_problem_of_lines}
use Rattle.pf_layers.specs.Layers.{level_at}
use Rattle.pf_layers.specs.DenseLayers.{IsDenseLayers}
use Rattle.pf_layers.specs.RatioLayers.{IsRatioLayers}
use Rattle.pf_layers.specs.Answer.{LayersAnswer, IsLayersShape, IsDenseAnswer, IsRatioAnswer}
use Rattle.pf_layers.specs.Text.{layers_text}

-- the same layers, with equal levels
pub record AreSameLayers (levels levels' : List Fraction) (layers layers' : List ℤ) : Type 0 where
  pub same : layers ≡ layers'
  pub count : length levels ≡ length levels'
  pub equal : (j : ℕ) → j < length levels → IsEqual (level_at levels j) (level_at levels' j)

pub record AreLowest (levels : List Fraction) : Type 0 where
  pub each : (j : ℕ) → j < length levels → IsLowest (level_at levels j)

-- at most one list of layers is right
abbrev pub OneDenseLayers : Type 0
OneDenseLayers = (g : WeightedGraph) (levels levels' : List Fraction) (layers layers' : List ℤ) → IsWeightedGraph g → HasPositiveCosts g →
    IsDenseLayers g levels layers → IsDenseLayers g levels' layers' → AreSameLayers levels levels' layers layers'

abbrev pub OneRatioLayers : Type 0
OneRatioLayers = (p : ClosureProblem) (levels levels' : List Fraction) (layers layers' : List ℤ) → IsClosureProblem p →
    IsRatioLayers p levels layers → IsRatioLayers p levels' layers' → AreSameLayers levels levels' layers layers'

-- and one list of levels, where they are in lowest terms
abbrev pub OneDenseLevels : Type 0
OneDenseLevels = (g : WeightedGraph) (levels levels' : List Fraction) (layers layers' : List ℤ) → IsWeightedGraph g → HasPositiveCosts g →
    IsDenseLayers g levels layers → IsDenseLayers g levels' layers' → AreLowest levels → AreLowest levels' → levels ≡ levels'

abbrev pub OneRatioLevels : Type 0
OneRatioLevels = (p : ClosureProblem) (levels levels' : List Fraction) (layers layers' : List ℤ) → IsClosureProblem p →
    IsRatioLayers p levels layers → IsRatioLayers p levels' layers' → AreLowest levels → AreLowest levels' → levels ≡ levels'

-- answers of the right shape for one problem, which has so many elements, are equal where their texts are
abbrev pub LayersFromText : Type 0
LayersFromText = (n : ℕ) (a b : LayersAnswer) → IsLayersShape n a → IsLayersShape n b → layers_text a ≡ layers_text b → a ≡ b

-- right answers have the right shape
abbrev pub DenseHasShape : Type 0
DenseHasShape = (g : WeightedGraph) (answer : LayersAnswer) → IsWithinLimits g → IsDenseAnswer g answer → IsLayersShape g.nodes answer

abbrev pub RatioHasShape : Type 0
RatioHasShape = (p : ClosureProblem) (answer : LayersAnswer) → IsBoundedProblem p → IsRatioAnswer p answer → IsLayersShape (length p.costs) answer

-- A text of which the header is not that of another kind than `closure` is read as one of that kind, and likewise for `graph`. The header
-- of a third kind is a wrong one.
pub record IsReadByHeader (line : Line) (later : List Line) : Type 0 where
  pub as_closure : is_wrong_kind (codes "closure") line.fields ≡ false →
      layer_problem_of_lines (line ∷ later) ≡ accepted_as Closure (problem_of_lines closure (line ∷ later))
  pub as_graph : is_wrong_kind (codes "graph") line.fields ≡ false →
      layer_problem_of_lines (line ∷ later) ≡ accepted_as Graph (problem_of_lines (graph Densest) (line ∷ later))
  pub third : is_wrong_kind (codes "closure") line.fields ≡ true → is_wrong_kind (codes "graph") line.fields ≡ true →
      layer_problem_of_lines (line ∷ later) ≡ Err (WrongKind line.number)
