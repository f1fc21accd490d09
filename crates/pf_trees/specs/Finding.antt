-- What was found, as tables of the code: beside each edge the number of its tree, or the groups of vertices that forbid the trees.
use Rattle.std.specs.Prelude.{ℕ}
use Rattle.pf_model.specs.Digraph.{Digraph}
use Rattle.pf_trees.specs.declared.finding.Found.{Found}
use Rattle.pf_trees.specs.declared.finding.Found.TheVariants.{Trees, Blocked}
use Rattle.pf_trees.specs.Trees.{AreTrees, HasFewEdges}

abbrev pub IsFound : Digraph → ℕ → Found → Type 0
IsFound g k (Trees numbers) = AreTrees g k numbers.items
IsFound g k (Blocked groups) = HasFewEdges g k groups.items
