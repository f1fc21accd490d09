-- Graphs worked by hand.
use Rattle.std.specs.Prelude.{◌≡◌, ℕ, ℤ, pos, List, [], ◌∷◌}
use Rattle.pf_model.specs.Digraph.{Digraph}
use Rattle.pf_graph.specs.Labels.{parts, crossing_edges}
use Rattle.pf_trees.specs.Trees.{numbered, with_ends, AreTrees, Blocks}

-- all six edges between four vertices
abbrev pub complete : Digraph
complete = with_ends 4 ((0, 1) ∷ ((0, 2) ∷ ((0, 3) ∷ ((1, 2) ∷ ((1, 3) ∷ ((2, 3) ∷ []))))))

abbrev pub two_trees : List ℤ
two_trees = pos 1 ∷ (pos 2 ∷ (pos 2 ∷ (pos 1 ∷ (pos 2 ∷ (pos 1 ∷ [])))))

-- they are two trees
abbrev pub AreTwoTrees : Type 0
AreTwoTrees = AreTrees complete 2 two_trees

abbrev pub FirstTree : Type 0
FirstTree = numbered 1 complete.ends two_trees ≡ (0, 1) ∷ ((1, 2) ∷ ((2, 3) ∷ []))

abbrev pub SecondTree : Type 0
SecondTree = numbered 2 complete.ends two_trees ≡ (0, 2) ∷ ((0, 3) ∷ ((1, 3) ∷ []))

-- three edges that close a circle are no tree, though they are as many
abbrev pub CircleIsNoTree : Type 0
CircleIsNoTree = AreTrees complete 1 (pos 1 ∷ (pos 1 ∷ (pos 0 ∷ (pos 1 ∷ (pos 0 ∷ (pos 0 ∷ [])))))) → ⊥

-- each vertex a part by itself
abbrev pub alone : List ℕ
alone = 1 ∷ (2 ∷ (3 ∷ (4 ∷ [])))

abbrev pub SixCross : Type 0
SixCross = crossing_edges complete.ends alone ≡ 6

abbrev pub FourParts : Type 0
FourParts = parts alone ≡ 4

-- six edges do not suffice for three trees
abbrev pub ThreeTreesBlocked : Type 0
ThreeTreesBlocked = Blocks complete 3 alone

-- three edges between three vertices
abbrev pub triangle : Digraph
triangle = with_ends 3 ((0, 1) ∷ ((1, 2) ∷ ((0, 2) ∷ [])))

abbrev pub TriangleBlocked : Type 0
TriangleBlocked = Blocks triangle 2 (1 ∷ (2 ∷ (3 ∷ [])))

-- two parts let two trees through
abbrev pub TwoPartsLetThrough : Type 0
TwoPartsLetThrough = Blocks triangle 2 (1 ∷ (1 ∷ (2 ∷ []))) → ⊥

-- two edges between the same two vertices are two trees
abbrev pub pair : Digraph
pair = with_ends 2 ((0, 1) ∷ ((1, 0) ∷ []))

abbrev pub PairIsTwoTrees : Type 0
PairIsTwoTrees = AreTrees pair 2 (pos 1 ∷ (pos 2 ∷ []))

abbrev pub PairIsNotThree : Type 0
PairIsNotThree = Blocks pair 3 (1 ∷ (2 ∷ []))
