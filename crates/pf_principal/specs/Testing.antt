-- What the parts of the test tell.
use Rattle.std.specs.Prelude.{◌≡◌, ℕ, ◌+◌, ◌*◌, ◌<◌, ℤ, pos, ◌≤ℤ◌, List}
use Rattle.pf_model.specs.Fraction.{Fraction, IsBelow, IsParameter}
use Rattle.pf_frame.specs.Lending.{row_at}
use Rattle.pf_graph.specs.WeightedGraph.{WeightedGraph}
use Rattle.pf_graph.specs.Labels.{parts}
use Rattle.pf_graph.specs.Best.{crossing_of, level_at, partition_at}
use Rattle.pf_forest.specs.Forest.{IsInRange, MeetsTotal, AreSplits}
use Rattle.pf_principal.specs.Principal.{PrincipalAnswer}

-- the forest condition at a level, with a vector, with the rows of a table from row first on, and with both partitions
pub record MeetsBoth (g : WeightedGraph) (x : Fraction) (vector : List ℤ) (splits : List (List ℤ)) (first : ℕ) (left right : List ℕ) : Type 0 where
  pub parameter : IsParameter x
  pub level : pos 0 ≤ℤ x.p
  pub range : IsInRange g x vector
  pub with_left : MeetsTotal g x vector left
  pub with_right : MeetsTotal g x vector right
  pub splits_are : AreSplits g x vector splits first g.nodes

-- all that is asked of level j + 1 and its neighbours
pub record MeetsStep (g : WeightedGraph) (a : PrincipalAnswer) (j : ℕ) : Type 0 where
  pub rise : IsBelow (level_at a.levels j) (level_at a.levels (j + 1))
  pub parts_rise : parts (partition_at a.partitions j) < parts (partition_at a.partitions (j + 1))
  pub both : MeetsBoth g (level_at a.levels (j + 1)) (row_at a.vectors j) a.splits (j * g.nodes) (partition_at a.partitions j) (partition_at a.partitions (j + 1))

pub record MeetsSteps (g : WeightedGraph) (a : PrincipalAnswer) (count : ℕ) : Type 0 where
  pub each : (j : ℕ) → j < count → MeetsStep g a j

-- no weight crosses the first partition, and the last one has one part per vertex
pub record HasEnds (g : WeightedGraph) (first last : List ℕ) : Type 0 where
  pub uncrossed : crossing_of g first ≡ pos 0
  pub single : parts last ≡ g.nodes
