-- What the forest condition proves.
use Rattle.std.specs.Prelude.{◌≡◌, ℤ, pos, ◌≤ℤ◌, ℕ, ◌<◌, List, length}
use Rattle.pf_model.specs.Cut.{at_arc}
use Rattle.pf_model.specs.Digraph.{Digraph, IsDigraph}
use Rattle.pf_model.specs.Fraction.{Fraction}
use Rattle.pf_graph.specs.WeightedGraph.{WeightedGraph, IsWeightedGraph, digraph_of}
use Rattle.pf_graph.specs.Best.{IsBest}
use Rattle.pf_forest.specs.Forest.{IsSparse, IsSplit, MeetsForest}

-- a vector with a split for each root is sparse
abbrev pub SplitsAreSparse : Type 0
SplitsAreSparse = (g : WeightedGraph) (x : Fraction) (vector : List ℤ) (splits : ℕ → List ℤ) (labels : List ℕ) → IsWeightedGraph g →
    MeetsForest g x vector splits labels → IsSparse (digraph_of g) x.p vector

-- a split for a root
pub record HasSplit (g : Digraph) (limit : ℤ) (vector : List ℤ) (root : ℕ) : Type 0 where
  pub shares : List ℤ
  pub split : IsSplit g limit vector shares root

-- and each sparse vector has one for each root
abbrev pub SparseHasSplits : Type 0
SparseHasSplits = (g : Digraph) (limit : ℤ) (vector : List ℤ) (root : ℕ) → IsDigraph g → pos 0 ≤ℤ limit → length vector ≡ length g.ends →
    ((i : ℕ) → i < length g.ends → pos 0 ≤ℤ at_arc vector i) → IsSparse g limit vector → HasSplit g limit vector root

-- a partition with which the forest condition holds is best at the level
abbrev pub ForestIsBest : Type 0
ForestIsBest = (g : WeightedGraph) (x : Fraction) (vector : List ℤ) (splits : ℕ → List ℤ) (labels : List ℕ) → IsWeightedGraph g →
    MeetsForest g x vector splits labels → IsBest g x labels
