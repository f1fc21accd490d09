-- What an answer about trees means.
use Rattle.std.specs.Prelude.{ℕ}
use Rattle.pf_model.specs.Digraph.{Digraph}
use Rattle.pf_trees.specs.declared.trees_of_graph.TreesOr.{TreesOr}
use Rattle.pf_trees.specs.declared.trees_of_graph.TreesOr.TheVariants.{Trees, Blocked}
use Rattle.pf_trees.specs.Trees.{AreTrees, Blocks}

abbrev pub Answers : Digraph → ℕ → TreesOr → Type 0
Answers g k (Trees numbers) = AreTrees g k numbers
Answers g k (Blocked labels) = Blocks g k labels
