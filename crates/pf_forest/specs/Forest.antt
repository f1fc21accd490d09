-- Sparse vectors, splits, and the forest condition.
use Rattle.std.specs.Prelude.{◌≡◌, ℕ, ◌+◌, ◌<◌, ℤ, ◌+ℤ◌, ◌-ℤ◌, ◌*ℤ◌, ◌≤ℤ◌, pos, Bool, List, length, Option, Some, None}
use Rattle.pf_model.specs.Cut.{at_arc, size}
use Rattle.pf_model.specs.Flow.{sum_out, sum_in}
use Rattle.pf_model.specs.Fraction.{Fraction, IsParameter}
use Rattle.pf_model.specs.Digraph.{Digraph}
use Rattle.pf_frame.specs.Lending.{row_at}
use Rattle.pf_graph.specs.WeightedGraph.{WeightedGraph, digraph_of, inside, total}
use Rattle.pf_graph.specs.Labels.{parts, IsPartition}
use Rattle.pf_graph.specs.Best.{crossing_of, IsBest}

-- the limit times the number of vertices less one
abbrev pub bound_of : ℤ → List Bool → ℤ
bound_of limit side = limit *ℤ (pos (size side) -ℤ pos 1)

-- Edmonds' bound on forests: the sum inside each nonempty set of vertices is at most the limit times the number of its vertices less one
pub record IsSparse (g : Digraph) (limit : ℤ) (vector : List ℤ) : Type 0 where
  pub sparse : (side : List Bool) → length side ≡ g.nodes → 0 < size side → inside g.ends vector side ≤ℤ bound_of limit side

-- what the vertex v gets, where the first end of each edge gets the number in shares, and the second the rest
abbrev pub given : List (ℕ × ℕ) → List ℤ → List ℤ → ℕ → ℤ
given ends vector shares v = sum_out ends shares v +ℤ (sum_in ends vector v -ℤ sum_in ends shares v)

-- a split for a root: each edge gives its number to its two ends, the root gets nothing, and each vertex at most the limit
pub record IsSplit (g : Digraph) (limit : ℤ) (vector shares : List ℤ) (root : ℕ) : Type 0 where
  pub full : length shares ≡ length g.ends
  pub low : (i : ℕ) → i < length g.ends → pos 0 ≤ℤ at_arc shares i
  pub high : (i : ℕ) → i < length g.ends → at_arc shares i ≤ℤ at_arc vector i
  pub root_none : given g.ends vector shares root ≡ pos 0
  pub most : (v : ℕ) → v < g.nodes → given g.ends vector shares v ≤ℤ limit

-- one number per edge, from 0 to its weight times the denominator
pub record IsInRange (g : WeightedGraph) (x : Fraction) (vector : List ℤ) : Type 0 where
  pub full : length vector ≡ length g.ends
  pub low : (i : ℕ) → i < length g.ends → pos 0 ≤ℤ at_arc vector i
  pub high : (i : ℕ) → i < length g.ends → at_arc vector i ≤ℤ (x.q *ℤ at_arc g.weights i)

-- the sum of the vector is q crossing + p (vertices - parts) at the level p/q
pub record MeetsTotal (g : WeightedGraph) (x : Fraction) (vector : List ℤ) (labels : List ℕ) : Type 0 where
  pub total_is : total g.ends vector ≡ (x.q *ℤ crossing_of g labels) +ℤ (x.p *ℤ (pos g.nodes -ℤ pos (parts labels)))

-- the first rows of the table from row first on, so many as count, are splits for the vertices in turn as roots
pub record AreSplits (g : WeightedGraph) (x : Fraction) (vector : List ℤ) (splits : List (List ℤ)) (first count : ℕ) : Type 0 where
  pub each : (r : ℕ) → r < count → IsSplit (digraph_of g) x.p vector (row_at splits (first + r)) r

-- the table has a split for each of the first vertices after the rows that it had
pub record AddsSplits (g : WeightedGraph) (x : Fraction) (vector : List ℤ) (old new : List (List ℤ)) (count : ℕ) : Type 0 where
  pub rows : length new ≡ length old + count
  pub kept : (k : ℕ) → k < length old → row_at new k ≡ row_at old k
  pub splits : AreSplits g x vector new (length old) count

-- The forest condition for a level p/q, a vector, a split for each root and a partition. Vector and splits are in units of 1/q.
pub record MeetsForest (g : WeightedGraph) (x : Fraction) (vector : List ℤ) (splits : ℕ → List ℤ) (labels : List ℕ) : Type 0 where
  pub parameter : IsParameter x
  pub level : pos 0 ≤ℤ x.p
  pub labels_full : length labels ≡ g.nodes
  pub range : IsInRange g x vector
  pub splits_are : (r : ℕ) → r < g.nodes → IsSplit (digraph_of g) x.p vector (splits r) r
  pub sum : MeetsTotal g x vector labels

-- it holds with some splits
pub record HasForest (g : WeightedGraph) (x : Fraction) (vector : List ℤ) (labels : List ℕ) : Type 0 where
  pub splits : ℕ → List ℤ
  pub meets : MeetsForest g x vector splits labels

-- What a forest keeps from one call to the next, once it is filled at a level: no set of vertices holds too much, and the sum is that of its partition.
pub record KeepsForest (g : WeightedGraph) (x : Fraction) (vector : List ℤ) (labels : List ℕ) : Type 0 where
  pub parameter : IsParameter x
  pub level : pos 0 ≤ℤ x.p
  pub partition : IsPartition g.nodes labels
  pub full : length vector ≡ length g.ends
  pub low : (i : ℕ) → i < length g.ends → pos 0 ≤ℤ at_arc vector i
  pub sparse : IsSparse (digraph_of g) x.p vector
  pub sum : MeetsTotal g x vector labels

-- what `fill` leaves: besides, no edge has more than its weight, the forest condition holds, and no partition is better at the level
pub record IsFilled (g : WeightedGraph) (x : Fraction) (vector : List ℤ) (labels : List ℕ) : Type 0 where
  pub keeps : KeepsForest g x vector labels
  pub range : IsInRange g x vector
  pub forest : HasForest g x vector labels
  pub best : IsBest g x labels

abbrev pub no_level : Option Fraction
no_level = None

-- a forest, as contracts see it: the level is none before it is filled
pub record ForestState : Type 0 where
  pub graph : WeightedGraph
  pub level : Option Fraction
  pub vector : List ℤ
  pub labels : List ℕ

-- what is kept at the level of the last filling, if there is one
pub record IsKept (f : ForestState) : Type 0 where
  pub filled : (x : Fraction) → f.level ≡ Some x → KeepsForest f.graph x f.vector f.labels
