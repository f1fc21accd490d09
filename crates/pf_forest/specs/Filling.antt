-- How the vector is raised edge by edge: groups of vertices that are tight, and what each step leaves.
use Rattle.std.specs.Prelude.{◌≡◌, ◌≢◌, ℕ, zero, suc, ◌<◌, ◌^◌, ◌==◌, ◌&&◌, ◌||◌, if◌then◌else◌, ℤ, ◌+ℤ◌, ◌-ℤ◌, ◌*ℤ◌, ◌≤ℤ◌, ◌<ℤ◌, pos, ◌⊎◌, Bool, true, false, List, length, slice_set, Option, Some, None}
use Rattle.pf_model.specs.Cut.{at_arc, has}
use Rattle.pf_model.specs.Fraction.{Fraction, IsParameter}
use Rattle.pf_model.specs.Digraph.{Digraph}
use Rattle.pf_graph.specs.WeightedGraph.{WeightedGraph, digraph_of, inside, total}
use Rattle.pf_graph.specs.Labels.{label, occurs, part, parts, crossing, Refines, IsPartitionOf}
use Rattle.pf_forest.specs.Held.{IsHeld, HasTables, tail_of, head_of}
use Rattle.pf_forest.specs.Forest.{IsSparse, bound_of}
use Rattle.pf_forest.specs.declared.workspace.Workspace.{Workspace}

-- the sum inside this set is the limit times the number of its vertices less one
pub record IsTight (g : Digraph) (limit : ℤ) (vector : List ℤ) (side : List Bool) : Type 0 where
  pub tight : inside g.ends vector side ≡ bound_of limit side

-- how a forest stands between two calls: charges are shared, the vector is sparse, and each group of vertices is tight
pub record IsForest (g : Digraph) (limit : ℤ) (vector heads rooms : List ℤ) (groups : List ℕ) : Type 0 where
  pub held : IsHeld g limit vector heads rooms
  pub sparse : IsSparse g limit vector
  pub full : length groups ≡ g.nodes
  pub low : (v : ℕ) → v < g.nodes → label groups v < g.nodes
  pub tight : (a : ℕ) → occurs a groups ≡ true → inside g.ends vector (part groups a) ≡ bound_of limit (part groups a)

-- the edge has all of its goal, or its ends are in one group
abbrev pub IsDone : Digraph → List ℤ → List ℤ → List ℕ → ℕ → Type 0
IsDone g goals vector groups i = (at_arc vector i ≡ at_arc goals i) ⊎ (label groups (tail_of g.ends i) ≡ label groups (head_of g.ends i))

-- each edge whose ends are in different groups has all of its goal
pub record CrossingAreFull (g : Digraph) (goals vector : List ℤ) (groups : List ℕ) : Type 0 where
  pub done : (i : ℕ) → i < length g.ends → IsDone g goals vector groups i

-- no edge has more than its goal
pub record AreWithinGoals (g : Digraph) (goals vector : List ℤ) : Type 0 where
  pub within : (i : ℕ) → i < length g.ends → at_arc vector i ≤ℤ at_arc goals i

-- the sum of all numbers, where each part of the partition is tight, and each edge that crosses has its goal
pub record MeetsSum (g : Digraph) (limit : ℤ) (goals vector : List ℤ) (groups : List ℕ) : Type 0 where
  pub sum : total g.ends vector ≡ crossing g.ends goals groups +ℤ (limit *ℤ (pos g.nodes -ℤ pos (parts groups)))

-- some vertex of the side below k has the group a
abbrev pub touches : List Bool → List ℕ → ℕ → ℕ → Bool
touches side groups zero a = false
touches side groups (suc k) a = (has side k && (label groups k == a)) || touches side groups k a

-- each group that the side touches becomes one group
pub record IsJoined (side : List Bool) (groups : List ℕ) (to : ℕ) (now : List ℕ) : Type 0 where
  pub full : length now ≡ length groups
  pub joined : (v : ℕ) → v < length groups → label now v ≡ (if touches side groups (length groups) (label groups v) then to else label groups v)

-- the ends of each edge differ
pub record HasApartEnds (ends : List (ℕ × ℕ)) : Type 0 where
  pub apart : (i : ℕ) → i < length ends → tail_of ends i ≢ head_of ends i

-- one edge is raised towards its goal; where it does not get there, its ends are in one group
pub record IsRaised (g : Digraph) (old : List ℤ) (groups : List ℕ) (new : List ℤ) (joined : List ℕ) (e : ℕ) (goal : ℤ) : Type 0 where
  pub others : (k : ℕ) → k ≢ e → at_arc new k ≡ at_arc old k
  pub more : at_arc old e ≤ℤ at_arc new e
  pub most : at_arc new e ≤ℤ goal
  pub done : (at_arc new e ≡ goal) ⊎ (label joined (tail_of g.ends e) ≡ label joined (head_of g.ends e))
  pub refines : Refines g.nodes groups joined

-- one goal per edge
pub record IsGoals (g : Digraph) (goals : List ℤ) : Type 0 where
  pub goals_full : length goals ≡ length g.ends
  pub goals_low : (i : ℕ) → i < length g.ends → pos 0 ≤ℤ at_arc goals i
  pub goals_high : (i : ℕ) → i < length g.ends → at_arc goals i ≤ℤ pos (2 ^ 100)

-- the goal of an edge is its weight times the denominator
pub record AreGoalsOf (g : WeightedGraph) (q : ℤ) (goals : List ℤ) : Type 0 where
  pub goals_full : length goals ≡ length g.ends
  pub goals_are : (i : ℕ) → i < length g.ends → at_arc goals i ≡ q *ℤ at_arc g.weights i

-- the numbers beside an edge and its head
pub record HasBounds (vector heads rooms : List ℤ) (v e : ℕ) : Type 0 where
  pub room_low : pos 0 ≤ℤ at_arc rooms v
  pub room_top : at_arc rooms v ≤ℤ pos (2 ^ 80)
  pub heads_low : pos 0 ≤ℤ at_arc heads e
  pub heads_high : at_arc heads e ≤ℤ at_arc vector e

-- an amount is put on the edge: all the room of its head, or what its goal wants, whichever is less
pub record IsLifted (vector heads rooms : List ℤ) (v e : ℕ) (goal : ℤ) (vector_now heads_now rooms_now : List ℤ) : Type 0 where
  pub amount : ℤ
  pub low : pos 0 ≤ℤ amount
  pub fits : amount ≤ℤ at_arc rooms v
  pub most : amount ≤ℤ (goal -ℤ at_arc vector e)
  pub all : at_arc rooms v <ℤ (goal -ℤ at_arc vector e) → amount ≡ at_arc rooms v
  pub done : (goal -ℤ at_arc vector e) ≤ℤ at_arc rooms v → amount ≡ goal -ℤ at_arc vector e
  pub vector_is : vector_now ≡ slice_set vector e (at_arc vector e +ℤ amount)
  pub heads_is : heads_now ≡ slice_set heads e (at_arc heads e +ℤ amount)
  pub rooms_is : rooms_now ≡ slice_set rooms v (at_arc rooms v -ℤ amount)

-- one number for each edge, one for each vertex
pub record HasLists (g : WeightedGraph) (goals vector heads rooms : List ℤ) (groups labels : List ℕ) : Type 0 where
  pub goals_full : length goals ≡ length g.ends
  pub vector_full : length vector ≡ length g.ends
  pub heads_full : length heads ≡ length g.ends
  pub rooms_full : length rooms ≡ g.nodes
  pub groups_full : length groups ≡ g.nodes
  pub labels_full : length labels ≡ g.nodes

-- the forest with the partition that its groups make; before the first filling the limit is 0
pub record IsStanding (g : WeightedGraph) (limit : ℤ) (vector heads rooms : List ℤ) (groups labels : List ℕ) : Type 0 where
  pub forest : IsForest (digraph_of g) limit vector heads rooms groups
  pub labels_are : IsPartitionOf groups labels

-- at the level p/q the goals are the weights in units of 1/q, and crossing edges are full
pub record IsStandingAt (g : WeightedGraph) (x : Fraction) (goals vector : List ℤ) (groups : List ℕ) : Type 0 where
  pub parameter : IsParameter x
  pub level : pos 0 ≤ℤ x.p
  pub goals_are : AreGoalsOf g x.q goals
  pub crossing : CrossingAreFull (digraph_of g) goals vector groups

-- what the type of a forest keeps
pub record IsWhole (g : WeightedGraph) (filled : Bool) (x : Fraction) (goals vector heads rooms : List ℤ) (groups labels : List ℕ) (workspace : Workspace) : Type 0 where
  pub lists : HasLists g goals vector heads rooms groups labels
  pub standing : IsStanding g x.p vector heads rooms groups labels
  pub tables : HasTables g.nodes workspace
  pub at_level : filled ≡ true → IsStandingAt g x goals vector groups

-- the level of a forest that is filled
abbrev pub level_of : Bool → Fraction → Option Fraction
level_of true x = Some x
level_of false x = None
