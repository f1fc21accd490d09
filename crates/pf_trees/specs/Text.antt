-- The text of an answer about trees.
use Rattle.std.specs.Prelude.{◌≡◌, ℕ, ◌<◌, ℤ, pos, ◌≤ℤ◌, List, [], ◌∷◌, ◌++◌, length, codes}
use Rattle.pf_model.specs.Cut.{at_arc}
use Rattle.pf_model.specs.Digraph.{Digraph}
use Rattle.pf_text.specs.Spelling.{line, row_line, label_line}
use Rattle.pf_graph.specs.WeightedGraph.{WeightedGraph, digraph_of}
use Rattle.pf_graph.specs.Labels.{crossing_edges, IsPartition}
use Rattle.pf_trees.specs.declared.trees_of_graph.TreesOr.{TreesOr}
use Rattle.pf_trees.specs.declared.trees_of_graph.TreesOr.TheVariants.{Trees, Blocked}
use Rattle.pf_trees.specs.Answer.{Answers}

-- beside each edge a number from 0 to k
pub record AreTreeNumbers (g : Digraph) (k : ℕ) (numbers : List ℤ) : Type 0 where
  pub full : length numbers ≡ length g.ends
  pub low : (i : ℕ) → i < length g.ends → pos 0 ≤ℤ at_arc numbers i
  pub high : (i : ℕ) → i < length g.ends → at_arc numbers i ≤ℤ pos k

-- a number for each edge, or a label for each vertex
abbrev pub IsTreesShape : Digraph → TreesOr → Type 0
IsTreesShape g (Trees numbers) = length numbers ≡ length g.ends
IsTreesShape g (Blocked labels) = length labels ≡ g.nodes

-- a number from 0 to k for each edge, or a partition by the label rule
abbrev pub IsAnswerShape : Digraph → ℕ → TreesOr → Type 0
IsAnswerShape g k (Trees numbers) = AreTreeNumbers g k numbers
IsAnswerShape g k (Blocked labels) = IsPartition g.nodes labels

-- the numbers of the trees; or the partition, and how many edges cross it
abbrev pub answer_lines : Digraph → TreesOr → List ℕ
answer_lines g (Trees numbers) = row_line (codes "m") [] numbers ++ line (codes "end" ∷ [])
answer_lines g (Blocked labels) =
    line (codes "none" ∷ []) ++ label_line (codes "s") [] labels ++ row_line (codes "c") (crossing_edges g.ends labels ∷ []) [] ++ line (codes "end" ∷ [])

-- the text of the answer to `trees K`
unfoldable pub trees_text : Digraph → ℕ → TreesOr → List ℕ
trees_text g k answer = line (codes "o" ∷ codes "trees" ∷ []) ++ row_line (codes "k") (k ∷ []) [] ++ answer_lines g answer

-- `trees K`: the text of k spanning trees without a common edge, or of a partition that blocks them
pub record IsRightTrees (k : ℕ) (g : WeightedGraph) (text : List ℕ) : Type 0 where
  pub answer : TreesOr
  pub means : Answers (digraph_of g) k answer
  pub text_is : text ≡ trees_text (digraph_of g) k answer
