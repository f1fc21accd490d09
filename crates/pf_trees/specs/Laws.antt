-- What holds of trees and partitions in every graph, and of the texts of answers.
use Rattle.std.specs.Prelude.{◌≡◌, ℕ, ◌-◌, ◌<◌, ◌^◌, ℤ, List, length}
use Rattle.pf_model.specs.Digraph.{Digraph, IsDigraph}
use Rattle.pf_trees.specs.declared.trees_of_graph.TreesOr.{TreesOr}
use Rattle.pf_graph.specs.Labels.{parts, crossing_edges, IsPartition}
use Rattle.pf_trees.specs.Trees.{with_ends, IsSpanningTree, AreTrees, Blocks}
use Rattle.pf_trees.specs.Text.{IsAnswerShape, trees_text}

-- a graph has not both k spanning trees without a common edge and a partition that blocks them
abbrev pub NotBoth : Type 0
NotBoth = (g : Digraph) (k : ℕ) (numbers : List ℤ) (labels : List ℕ) → IsDigraph g → AreTrees g k numbers → Blocks g k labels → ⊥

-- answers of the right shape with equal texts are equal, where k and the number of vertices are below 2^104
abbrev pub TreesFromText : Type 0
TreesFromText = (g : Digraph) (k : ℕ) (a b : TreesOr) → k < 2 ^ 104 → g.nodes < 2 ^ 104 → IsAnswerShape g k a → IsAnswerShape g k b →
    trees_text g k a ≡ trees_text g k b → a ≡ b

-- edges span where one crosses each partition by the label rule into at least two parts
abbrev pub SpanningByRule : Type 0
SpanningByRule = (n : ℕ) (edges : List (ℕ × ℕ)) → IsDigraph (with_ends n edges) → length edges ≡ n - 1 →
    ((r : List ℕ) → IsPartition n r → 1 < parts r → 0 < crossing_edges edges r) → IsSpanningTree n edges
