-- What the certificate proves.
use Rattle.std.specs.Prelude.{◌≡◌, ◌↔◌, ℕ, ◌<◌, ◌≤◌, List, length, slice_index_or}
use Rattle.pf_model.specs.Fraction.{Fraction}
use Rattle.pf_graph.specs.WeightedGraph.{WeightedGraph, IsWeightedGraph}
use Rattle.pf_graph.specs.Labels.{label, parts, Refines}
use Rattle.pf_graph.specs.Best.{IsStrength, IsPrincipal, level_zero, level_at, partition_at}
use Rattle.pf_graph.specs.Laws.{AreLowest}
use Rattle.pf_graph.specs.Limits.{IsWithinLimits}
use Rattle.pf_principal.specs.Principal.{PrincipalAnswer, FitsGraph, IsPrincipalShape, CertifiesPrincipal}
use Rattle.pf_principal.specs.Text.{principal_text}
use Rattle.pf_principal.specs.Right.{IsRightPrincipal, IsCertifiedPrincipal}

-- the partitions are best at every level, as those of the principal partition
abbrev pub CertificateIsPrincipal : Type 0
CertificateIsPrincipal = (g : WeightedGraph) (a : PrincipalAnswer) → IsWeightedGraph g → FitsGraph g a → CertifiesPrincipal g a →
    IsPrincipal g a.levels a.partitions

-- two certified answers have the same levels and partitions
abbrev pub CertifiedIsUnique : Type 0
CertifiedIsUnique = (g : WeightedGraph) (a b : PrincipalAnswer) → IsWeightedGraph g → FitsGraph g a → CertifiesPrincipal g a → AreLowest a.levels →
    FitsGraph g b → CertifiesPrincipal g b → AreLowest b.levels → (a.levels ≡ b.levels) × (a.partitions ≡ b.partitions)

-- answers of the right shape with equal texts are equal
abbrev pub PrincipalFromText : Type 0
PrincipalFromText = (g : WeightedGraph) (a b : PrincipalAnswer) → IsWithinLimits g → IsPrincipalShape g a → IsPrincipalShape g b → principal_text g a ≡ principal_text g b → a ≡ b

-- the verdict is `yes` for exactly the texts of right answers
abbrev pub CertifiedIsRight : Type 0
CertifiedIsRight = (g : WeightedGraph) (text : List ℕ) → IsWithinLimits g → IsCertifiedPrincipal g text ↔ IsRightPrincipal g text

-- where the first partition has one part, the first level is the strength of the graph, and the second partition attains it
abbrev pub FirstLevelIsStrength : Type 0
FirstLevelIsStrength = (g : WeightedGraph) (levels : List Fraction) (partitions : List (List ℕ)) → IsWeightedGraph g → 2 ≤ g.nodes →
    IsPrincipal g levels partitions → parts (partition_at partitions 0) ≡ 1 → IsStrength g (level_at levels 1) (partition_at partitions 1)

-- where it has more, the strength is 0, and the first partition attains it
abbrev pub NoStrengthApart : Type 0
NoStrengthApart = (g : WeightedGraph) (levels : List Fraction) (partitions : List (List ℕ)) → IsWeightedGraph g →
    IsPrincipal g levels partitions → 2 ≤ parts (partition_at partitions 0) → IsStrength g level_zero (partition_at partitions 0)

-- both ends of each edge have one label
pub record JoinsEdges (g : WeightedGraph) (labels : List ℕ) : Type 0 where
  pub joins : (i : ℕ) → i < length g.ends → label labels (slice_index_or g.ends i (0, 0)).0 ≡ label labels (slice_index_or g.ends i (0, 0)).1

-- the connected components: the finest partition in which both ends of each edge are in one part
pub record AreComponents (g : WeightedGraph) (labels : List ℕ) : Type 0 where
  pub joined : JoinsEdges g labels
  pub finest : (other : List ℕ) → length other ≡ g.nodes → JoinsEdges g other → Refines g.nodes labels other

-- the first partition has them as its parts, where each edge weighs something
abbrev pub FirstIsComponents : Type 0
FirstIsComponents = (g : WeightedGraph) (levels : List Fraction) (partitions : List (List ℕ)) → IsWithinLimits g →
    IsPrincipal g levels partitions → AreComponents g (partition_at partitions 0)
