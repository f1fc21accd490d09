-- What the certificate proves, that the two answers exclude each other, and what texts tell.
use Rattle.std.specs.Prelude.{◌≡◌, ℕ, ◌<◌, ◌≤◌, ℤ, ◌+ℤ◌, ◌-ℤ◌, ◌*ℤ◌, ◌≤ℤ◌, ◌<ℤ◌, pos, List, length}
use Rattle.pf_model.specs.Cut.{at_arc}
use Rattle.pf_model.specs.Fraction.{Fraction}
use Rattle.pf_model.specs.Answer.{IsFractionShape}
use Rattle.pf_graph.specs.WeightedGraph.{WeightedGraph, IsWeightedGraph}
use Rattle.pf_graph.specs.Labels.{parts, crossing, crossing_edges, IsPartition}
use Rattle.pf_graph.specs.Best.{crossing_of}
use Rattle.pf_graph.specs.Limits.{IsWithinLimits}
use Rattle.pf_reinforce.specs.declared.reinforcement.Reinforcement.{Reinforcement}
use Rattle.pf_reinforce.specs.declared.reinforcement.Reinforcement.TheVariants.{Added, Blocked}
use Rattle.pf_reinforce.specs.Reinforcement.{cost_of_added, AddedAnswer, ReachesLevel, IsReinforcement, CertifiesReinforcement, IsBlocked}
use Rattle.pf_reinforce.specs.Answer.{Answers, IsReinforcementShape}
use Rattle.pf_reinforce.specs.Text.{reinforcement_text}

-- the level is reached, and nothing that reaches it costs less, in whatever unit
abbrev pub CertificateIsLeast : Type 0
CertificateIsLeast = (g : WeightedGraph) (a : AddedAnswer) → IsWeightedGraph g → CertifiesReinforcement g a → IsReinforcement g a.level a.added

-- where the components of the graph block the level, nothing reaches it
abbrev pub BlockedIsNotReached : Type 0
BlockedIsNotReached = (g : WeightedGraph) (x : Fraction) (labels : List ℕ) (u : ℕ) (numbers : List ℤ) → IsWeightedGraph g → 1 ≤ u →
    IsBlocked g x labels → ReachesLevel g x u numbers → ⊥

-- answers of the right shape with equal texts are equal
abbrev pub ReinforcementFromText : Type 0
ReinforcementFromText = (g : WeightedGraph) (a b : Reinforcement) → IsWithinLimits g → IsReinforcementShape g a → IsReinforcementShape g b →
    reinforcement_text a ≡ reinforcement_text b → a ≡ b

-- right answers have the right shape
abbrev pub AnswerHasShape : Type 0
AnswerHasShape = (g : WeightedGraph) (x : Fraction) (answer : Reinforcement) → IsWithinLimits g → IsFractionShape x → Answers g x answer → IsReinforcementShape g answer

-- all reinforcements of a graph for a level have one cost
abbrev pub CostIsUnique : Type 0
CostIsUnique = (g : WeightedGraph) (x : Fraction) (a b : List ℤ) → IsReinforcement g x a → IsReinforcement g x b →
    cost_of_added g.prices a ≡ cost_of_added g.prices b

-- and what blocks a level is one partition
abbrev pub BlockedIsUnique : Type 0
BlockedIsUnique = (g : WeightedGraph) (x : Fraction) (d r : List ℕ) → IsWeightedGraph g → IsBlocked g x d → IsBlocked g x r → d ≡ r

-- one level, one cost, and one list of the prices that occur
pub record HasSameNumbers (a b : AddedAnswer) : Type 0 where
  pub level : a.level ≡ b.level
  pub cost : a.cost ≡ b.cost
  pub thresholds : a.thresholds ≡ b.thresholds

-- these, or the same components
abbrev pub TellTheSame : Reinforcement → Reinforcement → Type 0
TellTheSame (Added a) (Added b) = HasSameNumbers a b
TellTheSame (Blocked d) (Blocked r) = d ≡ r
TellTheSame a b = ⊥

abbrev pub AnswersTellTheSame : Type 0
AnswersTellTheSame = (g : WeightedGraph) (x : Fraction) (a b : Reinforcement) → IsWeightedGraph g → Answers g x a → Answers g x b → TellTheSame a b

-- it is enough that the level is reached on the partitions by the label rule
abbrev pub ReachesByRule : Type 0
ReachesByRule = (g : WeightedGraph) (x : Fraction) (u : ℕ) (numbers : List ℤ) → IsWeightedGraph g → length numbers ≡ length g.ends →
    ((i : ℕ) → i < length g.ends → pos 0 ≤ℤ at_arc numbers i) →
    ((r : List ℕ) → IsPartition g.nodes r →
    (pos u *ℤ (x.p *ℤ (pos (parts r) -ℤ pos 1))) ≤ℤ ((pos u *ℤ (x.q *ℤ crossing_of g r)) +ℤ crossing g.ends numbers r)) →
    ReachesLevel g x u numbers

-- and that no such partition without a crossing edge has more parts
abbrev pub BlockedByRule : Type 0
BlockedByRule = (g : WeightedGraph) (x : Fraction) (labels : List ℕ) → IsWeightedGraph g → pos 0 <ℤ x.p → IsPartition g.nodes labels → 2 ≤ parts labels →
    crossing_edges g.ends labels ≡ 0 → ((r : List ℕ) → IsPartition g.nodes r → crossing_edges g.ends r ≡ 0 → parts r ≤ parts labels) → IsBlocked g x labels
