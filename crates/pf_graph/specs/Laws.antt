-- What holds of partitions, of those that are best at a level, and of the principal partition.
use Rattle.std.specs.Prelude.{◌≡◌, ℕ, ◌+◌, ◌<◌, ◌≤◌, ℤ, ◌+ℤ◌, ◌-ℤ◌, ◌*ℤ◌, ◌≤ℤ◌, ◌<ℤ◌, pos, true, Bool, List, length}
use Rattle.pf_model.specs.Cut.{at_arc, size, union, intersection}
use Rattle.pf_model.specs.Digraph.{Digraph, IsDigraph}
use Rattle.pf_model.specs.Fraction.{Fraction, IsParameter, IsBelow, IsAtMost, IsEqual, IsLowest}
use Rattle.pf_graph.specs.WeightedGraph.{WeightedGraph, IsWeightedGraph, inside, total}
use Rattle.pf_graph.specs.Labels.{occurs, parts, part, crossing, crossing_edges, greatest_label, IsPartition, Refines, IsSamePartition, IsPartitionOf}
use Rattle.pf_graph.specs.Best.{crossing_of, partition_value, IsBest, IsStrength, level_at, partition_at, IsLevels, IsPrincipal}

-- by the label rule the number of parts is the greatest label
abbrev pub PartsAreGreatestLabel : Type 0
PartsAreGreatestLabel = (nodes : ℕ) (labels : List ℕ) → IsPartition nodes labels → parts labels ≡ greatest_label labels

-- and two lists with the same pairs of equal labels are the same list
abbrev pub OneListPerPartition : Type 0
OneListPerPartition = (nodes : ℕ) (first second : List ℕ) → IsPartition nodes first → IsPartition nodes second → IsSamePartition nodes first second → first ≡ second

-- a finer list has as many parts or more
abbrev pub FinerHasParts : Type 0
FinerHasParts = (fine coarse : List ℕ) → length fine ≡ length coarse → Refines (length fine) fine coarse → parts coarse ≤ parts fine

-- two lists in which the same vertices have equal labels have as many parts
abbrev pub SamePartitionHasParts : Type 0
SamePartitionHasParts = (first second : List ℕ) → length first ≡ length second → IsSamePartition (length first) first second → parts first ≡ parts second

-- and are crossed by the same edges: by the same sum of any numbers beside these, and by as many
abbrev pub SamePartitionIsCrossed : Type 0
SamePartitionIsCrossed = (g : Digraph) (numbers : List ℤ) (first second : List ℕ) → IsDigraph g → IsSamePartition g.nodes first second →
    crossing g.ends numbers first ≡ crossing g.ends numbers second

abbrev pub SamePartitionHasEdges : Type 0
SamePartitionHasEdges = (g : Digraph) (first second : List ℕ) → IsDigraph g → IsSamePartition g.nodes first second →
    crossing_edges g.ends first ≡ crossing_edges g.ends second

-- each list has one by the rule with the same pairs of equal labels
pub record HasRule (groups : List ℕ) : Type 0 where
  pub labels : List ℕ
  pub is : IsPartitionOf groups labels

abbrev pub RuleForEach : Type 0
RuleForEach = (groups : List ℕ) → HasRule groups

-- so it is enough to compare with partitions by the rule
abbrev pub BestByRule : Type 0
BestByRule = (g : WeightedGraph) (x : Fraction) (d : List ℕ) → IsWeightedGraph g → length d ≡ g.nodes →
    ((r : List ℕ) → IsPartition g.nodes r → partition_value g d x ≤ℤ partition_value g r x) → IsBest g x d

abbrev pub StrengthByRule : Type 0
StrengthByRule = (g : WeightedGraph) (x : Fraction) (d : List ℕ) → IsWeightedGraph g → IsPartition g.nodes d → IsParameter x → 2 ≤ parts d →
    x.q *ℤ crossing_of g d ≡ x.p *ℤ (pos (parts d) -ℤ pos 1) →
    ((r : List ℕ) → IsPartition g.nodes r → 2 ≤ parts r → (x.p *ℤ (pos (parts r) -ℤ pos 1)) ≤ℤ (x.q *ℤ crossing_of g r)) → IsStrength g x d

-- inside each part there is at most p (size - 1), or just that
pub record PartsMost (ends : List (ℕ × ℕ)) (numbers : List ℤ) (p : ℤ) (labels : List ℕ) : Type 0 where
  pub most : (a : ℕ) → occurs a labels ≡ true → inside ends numbers (part labels a) ≤ℤ (p *ℤ (pos (size (part labels a)) -ℤ pos 1))

pub record PartsTight (ends : List (ℕ × ℕ)) (numbers : List ℤ) (p : ℤ) (labels : List ℕ) : Type 0 where
  pub tight : (a : ℕ) → occurs a labels ≡ true → inside ends numbers (part labels a) ≡ p *ℤ (pos (size (part labels a)) -ℤ pos 1)

-- then all numbers together are at most those that cross and p (nodes - parts), or just that
abbrev pub PartsBoundTotal : Type 0
PartsBoundTotal = (g : Digraph) (numbers : List ℤ) (p : ℤ) (labels : List ℕ) → IsDigraph g → length labels ≡ g.nodes → PartsMost g.ends numbers p labels →
    total g.ends numbers ≤ℤ (crossing g.ends numbers labels +ℤ (p *ℤ (pos g.nodes -ℤ pos (parts labels))))

abbrev pub PartsGiveTotal : Type 0
PartsGiveTotal = (g : Digraph) (numbers : List ℤ) (p : ℤ) (labels : List ℕ) → IsDigraph g → length labels ≡ g.nodes → PartsTight g.ends numbers p labels →
    total g.ends numbers ≡ crossing g.ends numbers labels +ℤ (p *ℤ (pos g.nodes -ℤ pos (parts labels)))

-- two sides hold at most what their union and their intersection hold, where no number is below 0
abbrev pub InsideIsSupermodular : Type 0
InsideIsSupermodular = (ends : List (ℕ × ℕ)) (numbers : List ℤ) (first second : List Bool) → ((i : ℕ) → i < length ends → pos 0 ≤ℤ at_arc numbers i) →
    (inside ends numbers first +ℤ inside ends numbers second)
    ≤ℤ (inside ends numbers (union first second) +ℤ inside ends numbers (intersection first second))

abbrev pub SizeIsModular : Type 0
SizeIsModular = (first second : List Bool) → size (union first second) + size (intersection first second) ≡ size first + size second

-- where d is best at a level, and r at a greater level, r refines d
abbrev pub BestRefines : Type 0
BestRefines = (g : WeightedGraph) (x y : Fraction) (d r : List ℕ) → IsWeightedGraph g → IsParameter x → IsParameter y → IsBelow x y →
    IsBest g x d → IsBest g y r → Refines g.nodes r d

-- best at two levels, so best between them
abbrev pub BestBetween : Type 0
BestBetween = (g : WeightedGraph) (low x high : Fraction) (d : List ℕ) → IsParameter low → IsParameter x → IsParameter high →
    IsAtMost low x → IsAtMost x high → IsBest g low d → IsBest g high d → IsBest g x d

-- as many parts as vertices and best at a level, so best at each greater one
abbrev pub SingleBestAbove : Type 0
SingleBestAbove = (g : WeightedGraph) (x y : Fraction) (d : List ℕ) → IsParameter x → IsParameter y → IsAtMost x y → parts d ≡ g.nodes → IsBest g x d → IsBest g y d

-- at level 0 those are best that no edge of weight above 0 crosses
abbrev pub UncrossedIsBest : Type 0
UncrossedIsBest = (g : WeightedGraph) (x : Fraction) (d : List ℕ) → IsWeightedGraph g → IsParameter x → x.p ≡ pos 0 → length d ≡ g.nodes →
    crossing_of g d ≡ pos 0 → IsBest g x d

abbrev pub BestIsUncrossed : Type 0
BestIsUncrossed = (g : WeightedGraph) (x : Fraction) (d : List ℕ) → IsWeightedGraph g → IsParameter x → x.p ≡ pos 0 → IsBest g x d → crossing_of g d ≡ pos 0

-- a level above the strength of every part: one more than the total weight
abbrev pub level_above : WeightedGraph → Fraction
level_above g = record { p = total g.ends g.weights +ℤ pos 1; q = pos 1 }

-- above the total weight those are best that have as many parts as vertices
abbrev pub SingleIsBest : Type 0
SingleIsBest = (g : WeightedGraph) (d : List ℕ) → IsWeightedGraph g → length d ≡ g.nodes → parts d ≡ g.nodes → IsBest g (level_above g) d

abbrev pub BestIsSingle : Type 0
BestIsSingle = (g : WeightedGraph) (d : List ℕ) → IsWeightedGraph g → IsBest g (level_above g) d → parts d ≡ g.nodes

-- what is better at a level than a list that is best at a greater level has fewer parts than that
abbrev pub BetterHasFewerParts : Type 0
BetterHasFewerParts = (g : WeightedGraph) (x y : Fraction) (d0 d : List ℕ) → IsParameter x → IsParameter y → IsBelow x y → IsBest g y d0 →
    length d ≡ g.nodes → partition_value g d x <ℤ partition_value g d0 x → parts d < parts d0

-- What makes up the principal partition: partition 0 is crossed by no edge, each level is one at which both its neighbours are best,
-- and the numbers of parts rise up to that of the vertices.
pub record IsBestBetween (g : WeightedGraph) (levels : List Fraction) (partitions : List (List ℕ)) : Type 0 where
  pub levels_are : IsLevels g.nodes levels partitions
  pub first : crossing_of g (partition_at partitions 0) ≡ pos 0
  pub left : (j : ℕ) → j < length levels → IsBest g (level_at levels (j + 1)) (partition_at partitions j)
  pub right : (j : ℕ) → j < length levels → IsBest g (level_at levels (j + 1)) (partition_at partitions (j + 1))
  pub parts_rise : (j : ℕ) → j < length levels → parts (partition_at partitions j) < parts (partition_at partitions (j + 1))
  pub last : parts (partition_at partitions (length levels)) ≡ g.nodes

-- partitions that are best at neighbouring levels make up the principal partition
abbrev pub PrincipalFromBest : Type 0
PrincipalFromBest = (g : WeightedGraph) (levels : List Fraction) (partitions : List (List ℕ)) → IsWeightedGraph g → IsBestBetween g levels partitions →
    IsPrincipal g levels partitions

-- equal levels and the same partitions
pub record IsSamePrincipal (levels levels' : List Fraction) (partitions partitions' : List (List ℕ)) : Type 0 where
  pub count : length levels ≡ length levels'
  pub levels_are : (j : ℕ) → j ≤ length levels → IsEqual (level_at levels j) (level_at levels' j)
  pub partitions_are : (j : ℕ) → j ≤ length levels → partition_at partitions j ≡ partition_at partitions' j

-- there is one only, up to how its levels are written, and one where they are in lowest terms
abbrev pub PrincipalIsUnique : Type 0
PrincipalIsUnique = (g : WeightedGraph) (levels levels' : List Fraction) (partitions partitions' : List (List ℕ)) → IsPrincipal g levels partitions →
    IsPrincipal g levels' partitions' → IsSamePrincipal levels levels' partitions partitions'

pub record AreLowest (levels : List Fraction) : Type 0 where
  pub each : (j : ℕ) → j < length levels → IsLowest (level_at levels (j + 1))

abbrev pub PrincipalInLowestTerms : Type 0
PrincipalInLowestTerms = (g : WeightedGraph) (levels levels' : List Fraction) (partitions partitions' : List (List ℕ)) → IsPrincipal g levels partitions →
    IsPrincipal g levels' partitions' → AreLowest levels → AreLowest levels' → (levels ≡ levels') × (partitions ≡ partitions')
