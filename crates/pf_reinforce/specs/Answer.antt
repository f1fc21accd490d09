-- What an answer means.
use Rattle.std.specs.Prelude.{◌≡◌, ◌^◌, length, All}
use Rattle.pf_model.specs.Fraction.{Fraction}
use Rattle.pf_model.specs.Answer.{IsFractionShape, IsWithinSize}
use Rattle.pf_frame.specs.Numbers.{IsSized}
use Rattle.pf_graph.specs.WeightedGraph.{WeightedGraph, digraph_of}
use Rattle.pf_graph.specs.Labels.{IsPartition}
use Rattle.pf_reinforce.specs.declared.reinforcement.Reinforcement.{Reinforcement}
use Rattle.pf_reinforce.specs.declared.reinforcement.Reinforcement.TheVariants.{Added, Blocked}
use Rattle.pf_reinforce.specs.Reinforcement.{AddedAnswer, IsReinforcement, IsAddedShape, CertifiesReinforcement, IsBlocked}

-- what is added, with its certificate, is a reinforcement of least cost for the level
pub record IsAdded (g : WeightedGraph) (x : Fraction) (a : AddedAnswer) : Type 0 where
  pub level_is : a.level ≡ x
  pub shape : IsAddedShape g a
  pub certificate : CertifiesReinforcement g a
  pub least : IsReinforcement g x a.added

abbrev pub Answers : WeightedGraph → Fraction → Reinforcement → Type 0
Answers g x (Added a) = IsAdded g x a
Answers g x (Blocked labels) = IsBlocked g x labels

-- The shape of what is added, whatever it says: a level in lowest terms within its widths, a cost of a size below 2 ^ 127, and lists that fit the graph, with numbers of a size below 2 ^ 104.
pub record IsSizedAdded (g : WeightedGraph) (a : AddedAnswer) : Type 0 where
  pub level : IsFractionShape a.level
  pub cost : IsWithinSize (2 ^ 127) a.cost
  pub added : IsSized (digraph_of g) a.added
  pub vector : IsSized (digraph_of g) a.vector
  pub thresholds : All (IsWithinSize (2 ^ 104)) a.thresholds
  pub count : length a.parts ≡ length a.thresholds
  pub parts : All (IsPartition g.nodes) a.parts
  pub rows : length a.splits ≡ g.nodes
  pub splits : All (IsSized (digraph_of g)) a.splits

-- the shape of an answer
abbrev pub IsReinforcementShape : WeightedGraph → Reinforcement → Type 0
IsReinforcementShape g (Added a) = IsSizedAdded g a
IsReinforcementShape g (Blocked labels) = IsPartition g.nodes labels
