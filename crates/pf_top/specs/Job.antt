-- The commands: a row for each, which says how its text is read, what it refuses, and which texts are right answers.
use Rattle.std.specs.Prelude.{ℕ, if◌then◌else◌, List, Option, Some, None, Result}
use Rattle.pf_model.specs.Fraction.{Fraction}
use Rattle.pf_model.specs.Network.{Network}
use Rattle.pf_text.specs.declared.Refusal.{Refusal}
use Rattle.pf_text.specs.declared.Refusal.TheVariants.{Outside, TooFine}
use Rattle.pf_text.specs.declared.TextBad.{TextBad}
use Rattle.pf_text.specs.Lines.{Line}
use Rattle.pf_text.specs.Kinds.{Accepted, problem_of_lines}
use Rattle.pf_par.specs.Text.{par}
use Rattle.pf_par.specs.Right.{is_outside, IsRightPoint, IsRightCurve, IsCertifiedCurve}
use Rattle.pf_sweep.specs.Parameters.{is_too_fine}
use Rattle.pf_sweep.specs.Text.{IsRightSweep}
use Rattle.pf_closure.specs.Problem.{ClosureProblem}
use Rattle.pf_closure.specs.Text.{closure}
use Rattle.pf_closure.specs.Right.{IsRightRatio, IsCertifiedRatio}
use Rattle.pf_graph.specs.declared.graph.Task.{Task}
use Rattle.pf_graph.specs.WeightedGraph.{WeightedGraph}
use Rattle.pf_graph.specs.Text.{graph}
use Rattle.pf_dense.specs.Right.{IsRightDense, IsCertifiedDense}
use Rattle.pf_strength.specs.Right.{IsRightStrength, IsCertifiedStrength}
use Rattle.pf_trees.specs.Text.{IsRightTrees}
use Rattle.pf_reinforce.specs.Right.{IsRightReinforcement}
use Rattle.pf_select.specs.Problem.{SelectionProblem}
use Rattle.pf_select.specs.Text.{select}
use Rattle.pf_select.specs.Right.{IsRightSchedule, IsCertifiedSchedule}
use Rattle.pf_share.specs.Problem.{ShareProblem}
use Rattle.pf_share.specs.Text.{share}
use Rattle.pf_share.specs.Right.{IsRightShares, IsCertifiedShares}
use Rattle.pf_principal.specs.Right.{IsRightPrincipal, IsCertifiedPrincipal}
use Rattle.pf_layers.specs.declared.problem.LayerProblem.{LayerProblem}
use Rattle.pf_layers.specs.Problem.{layer_problem_of_lines}
use Rattle.pf_layers.specs.Right.{IsRightLayers}
use Rattle.pf_top.specs.declared.words.Name.{Name}
use Rattle.pf_top.specs.declared.words.Name.TheVariants.{Curve, Closure, Densest, Strength, Select, Partition, Share}

pub record Job : Type 1 where
  -- the problem that its text gives
  pub Problem : Type 0
  -- how its text is read: what its lines give, without blank ones and comments
  pub read : List Line → Result (Accepted Problem) TextBad
  -- what it refuses of a problem
  pub refusal : Problem → Option Refusal
  -- which texts are right answers
  pub IsRight : Problem → List ℕ → Type 0
  -- which texts `check` says `yes` to
  pub Certifies : Problem → List ℕ → Type 0

-- the rows: commands with a parameter, those that a word alone asks for, and those of them that `check` knows
pub data Row : Type 0 where
  at : Fraction → Row
  sweep : ℕ → Row
  trees : ℕ → Row
  reinforce : Fraction → Row
  layers : Row
  named : Name → Row

-- the table
abbrev pub job_of : Row → Job
job_of (at x) = record {
  Problem = Network;
  read = problem_of_lines par;
  refusal = λ net. if is_outside x net then Some Outside else None;
  IsRight = IsRightPoint x;
  Certifies = λ net text. ⊥;
}
job_of (sweep k) = record {
  Problem = Network;
  read = problem_of_lines par;
  refusal = λ net. if is_too_fine k net then Some TooFine else None;
  IsRight = IsRightSweep k;
  Certifies = λ net text. ⊥;
}
job_of (trees k) = record {
  Problem = WeightedGraph;
  read = problem_of_lines (graph Task.Partitions);
  refusal = λ g. None;
  IsRight = IsRightTrees k;
  Certifies = λ g text. ⊥;
}
job_of (reinforce x) = record {
  Problem = WeightedGraph;
  read = problem_of_lines (graph Task.Partitions);
  refusal = λ g. None;
  IsRight = IsRightReinforcement x;
  Certifies = λ g text. ⊥;
}
job_of layers = record {
  Problem = LayerProblem;
  read = layer_problem_of_lines;
  refusal = λ p. None;
  IsRight = IsRightLayers;
  Certifies = λ p text. ⊥;
}
job_of (named Curve) = record {
  Problem = Network;
  read = problem_of_lines par;
  refusal = λ net. None;
  IsRight = IsRightCurve;
  Certifies = IsCertifiedCurve;
}
job_of (named Closure) = record {
  Problem = ClosureProblem;
  read = problem_of_lines closure;
  refusal = λ items. None;
  IsRight = IsRightRatio;
  Certifies = IsCertifiedRatio;
}
job_of (named Densest) = record {
  Problem = WeightedGraph;
  read = problem_of_lines (graph Task.Densest);
  refusal = λ g. None;
  IsRight = IsRightDense;
  Certifies = IsCertifiedDense;
}
job_of (named Strength) = record {
  Problem = WeightedGraph;
  read = problem_of_lines (graph Task.Partitions);
  refusal = λ g. None;
  IsRight = IsRightStrength;
  Certifies = IsCertifiedStrength;
}
job_of (named Select) = record {
  Problem = SelectionProblem;
  read = problem_of_lines select;
  refusal = λ p. None;
  IsRight = IsRightSchedule;
  Certifies = IsCertifiedSchedule;
}
job_of (named Partition) = record {
  Problem = WeightedGraph;
  read = problem_of_lines (graph Task.Partitions);
  refusal = λ g. None;
  IsRight = IsRightPrincipal;
  Certifies = IsCertifiedPrincipal;
}
job_of (named Share) = record {
  Problem = ShareProblem;
  read = problem_of_lines share;
  refusal = λ p. None;
  IsRight = IsRightShares;
  Certifies = IsCertifiedShares;
}

abbrev pub ProblemOf : Row → Type 0
ProblemOf row = (job_of row).Problem

-- a command over a text: an answer is sought, or one after the problem is checked
pub data TextCommand : Type 0 where
  answer : Row → TextCommand
  check : Row → TextCommand

abbrev pub row_of : TextCommand → Row
row_of (answer row) = row
row_of (check row) = row

-- a command: over a text that is read, or over the network that a seed draws, for which nothing is read
pub data Command : Type 0 where
  reads : TextCommand → Command
  draws : ℕ → Command
