-- Numbers that are added to the weights of a graph, at a price for each edge, so that its strength is at least a level, and a certificate that none cost less (Cunningham 1985).
use Rattle.std.specs.Prelude.{◌≡◌, ℕ, suc, ◌<◌, ◌≤◌, ℤ, ◌+ℤ◌, ◌-ℤ◌, ◌*ℤ◌, ◌≤ℤ◌, ◌<ℤ◌, pos, int_lt, true, if◌then◌else◌, List, [], ◌∷◌, length, slice_index_or}
use Rattle.pf_model.specs.Cut.{at_arc}
use Rattle.pf_model.specs.Fraction.{Fraction, IsParameter}
use Rattle.pf_frame.specs.Lending.{row_at}
use Rattle.pf_graph.specs.WeightedGraph.{WeightedGraph, digraph_of, total}
use Rattle.pf_graph.specs.Labels.{parts, crosses, crossing, crossing_edges, IsPartition}
use Rattle.pf_graph.specs.Best.{crossing_of, partition_at}
use Rattle.pf_forest.specs.Forest.{IsSplit}

-- the sum of price times number
abbrev pub cost_of_added : List ℤ → List ℤ → ℤ
cost_of_added [] numbers = pos 0
cost_of_added (price ∷ prices) [] = pos 0
cost_of_added (price ∷ prices) (x ∷ numbers) = (price *ℤ x) +ℤ cost_of_added prices numbers

-- the sum of the numbers beside the prices that are at least c
abbrev pub sum_from : ℤ → List ℤ → List ℤ → ℤ
sum_from c [] numbers = pos 0
sum_from c (price ∷ prices) [] = pos 0
sum_from c (price ∷ prices) (x ∷ numbers) = (if int_lt price c then pos 0 else x) +ℤ sum_from c prices numbers

-- One number for each edge, in units of 1/(u q) at the level p/q. With them the edges that cross any partition have at least p/q (parts - 1) together.
pub record ReachesLevel (g : WeightedGraph) (x : Fraction) (u : ℕ) (numbers : List ℤ) : Type 0 where
  pub full : length numbers ≡ length g.ends
  pub low : (i : ℕ) → i < length g.ends → pos 0 ≤ℤ at_arc numbers i
  pub reaches : (labels : List ℕ) → length labels ≡ g.nodes →
      (pos u *ℤ (x.p *ℤ (pos (parts labels) -ℤ pos 1))) ≤ℤ ((pos u *ℤ (x.q *ℤ crossing_of g labels)) +ℤ crossing g.ends numbers labels)

-- A reinforcement of least cost: the numbers, in units of 1/q, reach the level, and no others do for less, in whatever unit.
pub record IsReinforcement (g : WeightedGraph) (x : Fraction) (added : List ℤ) : Type 0 where
  pub reaches : ReachesLevel g x 1 added
  pub least : (u : ℕ) (other : List ℤ) → 1 ≤ u → ReachesLevel g x u other →
      (pos u *ℤ cost_of_added g.prices added) ≤ℤ cost_of_added g.prices other

-- What is added and its cost; a vector with a split for each vertex as a root; the prices that occur, and a partition for each. All numbers are in units of 1/q of the level.
pub record AddedAnswer : Type 0 where
  pub level : Fraction
  pub cost : ℤ
  pub added : List ℤ
  pub vector : List ℤ
  pub thresholds : List ℤ
  pub parts : List (List ℕ)
  pub splits : List (List ℤ)

-- the number stands in the list
pub record IsAmong (x : ℤ) (numbers : List ℤ) : Type 0 where
  pub place : ℕ
  pub in_range : place < length numbers
  pub there : at_arc numbers place ≡ x

-- the prices that occur, each once, rising
pub record AreThresholds (prices thresholds : List ℤ) : Type 0 where
  pub rise : (j : ℕ) → suc j < length thresholds → at_arc thresholds j <ℤ at_arc thresholds (suc j)
  pub occur : (j : ℕ) → j < length thresholds → IsAmong (at_arc thresholds j) prices
  pub all : (i : ℕ) → i < length prices → IsAmong (at_arc prices i) thresholds

-- no edge below the price c crosses the partition, and the edges from this price on have just what the partition lacks
pub record IsThreshold (g : WeightedGraph) (x : Fraction) (added : List ℤ) (c : ℤ) (labels : List ℕ) : Type 0 where
  pub full : length labels ≡ g.nodes
  pub dear : (i : ℕ) → i < length g.ends → crosses labels (slice_index_or g.ends i (0, 0)) ≡ true → c ≤ℤ at_arc g.prices i
  pub sum : sum_from c g.prices added ≡ (x.p *ℤ (pos (parts labels) -ℤ pos 1)) -ℤ (x.q *ℤ crossing_of g labels)

-- each number of the vector is from 0 to the weight of its edge with what is added to it
pub record IsReinforced (g : WeightedGraph) (x : Fraction) (added vector : List ℤ) : Type 0 where
  pub added_full : length added ≡ length g.ends
  pub added_low : (i : ℕ) → i < length g.ends → pos 0 ≤ℤ at_arc added i
  pub vector_full : length vector ≡ length g.ends
  pub vector_low : (i : ℕ) → i < length g.ends → pos 0 ≤ℤ at_arc vector i
  pub vector_high : (i : ℕ) → i < length g.ends → at_arc vector i ≤ℤ ((x.q *ℤ at_arc g.weights i) +ℤ at_arc added i)

-- The certificate: the vector is p (vertices - 1) in all and has a split for each root, so the level is reached; and the partitions of the thresholds prove that no less is added from any price on.
pub record CertifiesReinforcement (g : WeightedGraph) (a : AddedAnswer) : Type 0 where
  pub parameter : IsParameter a.level
  pub level : pos 0 ≤ℤ a.level.p
  pub reinforced : IsReinforced g a.level a.added a.vector
  pub splits_are : (r : ℕ) → r < g.nodes → IsSplit (digraph_of g) a.level.p a.vector (row_at a.splits r) r
  pub sum : total g.ends a.vector ≡ a.level.p *ℤ (pos g.nodes -ℤ pos 1)
  pub thresholds_are : AreThresholds g.prices a.thresholds
  pub each : (j : ℕ) → j < length a.thresholds → IsThreshold g a.level a.added (at_arc a.thresholds j) (partition_at a.parts j)
  pub cost_is : a.cost ≡ cost_of_added g.prices a.added

-- its lists fit the graph: a partition by the label rule for each threshold, and a split for each vertex
pub record IsAddedShape (g : WeightedGraph) (a : AddedAnswer) : Type 0 where
  pub count : length a.parts ≡ length a.thresholds
  pub partition : (j : ℕ) → j < length a.thresholds → IsPartition g.nodes (partition_at a.parts j)
  pub rows : length a.splits ≡ g.nodes

-- Where the level is above 0 and the graph is not connected, nothing that is added to its edges reaches it: the parts are its connected components.
pub record IsBlocked (g : WeightedGraph) (x : Fraction) (labels : List ℕ) : Type 0 where
  pub level : pos 0 <ℤ x.p
  pub partition : IsPartition g.nodes labels
  pub apart : 2 ≤ parts labels
  pub uncrossed : crossing_edges g.ends labels ≡ 0
  pub most : (other : List ℕ) → length other ≡ g.nodes → crossing_edges g.ends other ≡ 0 → parts other ≤ parts labels
