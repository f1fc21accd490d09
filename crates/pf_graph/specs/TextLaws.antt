-- What holds of texts of graphs.
use Rattle.std.specs.Prelude.{◌≡◌, ℕ, List, Ok}
use Rattle.pf_text.specs.Kinds.{Accepted, problem_of}
use Rattle.pf_graph.specs.declared.graph.Task.{Task}
use Rattle.pf_graph.specs.WeightedGraph.{WeightedGraph}
use Rattle.pf_graph.specs.Limits.{IsWithinTask}
use Rattle.pf_graph.specs.Text.{graph}

-- a text that is accepted gives a graph within the limits of what is asked
abbrev pub AcceptedIsWithin : Type 0
AcceptedIsWithin = (task : Task) (text : List ℕ) (read : Accepted WeightedGraph) → problem_of (graph task) text ≡ Ok read → IsWithinTask task read.problem
