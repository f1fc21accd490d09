-- What holds of flows, cuts, residual graphs and labels in every network with fixed capacities.
use Rattle.std.specs.Prelude.{◌≡◌, ℕ, ◌+◌, ◌*◌, ◌≤◌, ℤ, ◌-ℤ◌, ◌≤ℤ◌, Bool, List, slice_index_or, ◌↔◌}
use Rattle.pf_model.specs.Cut.{FlowNetwork, IsProper, IsCut, IsLeast, IsSmallestLeast, IsLeastValue, IsLeastSize, capacity}
use Rattle.pf_model.specs.Flow.{IsFlow, IsPreflow, IsActive, IsGreatest, value, sum_leaving, sum_entering}
use Rattle.pf_model.specs.Residual.{Reaches, IsReach, HasNoWayOut, HasValidLabels}

-- the value of a flow is what leaves a cut less what enters it, whichever cut it is
abbrev pub ValueCrossesCut : Type 0
ValueCrossesCut = (g : FlowNetwork) (flow : List ℤ) (side : List Bool) → IsFlow g flow → IsCut g side →
    value g flow ≡ sum_leaving g flow side -ℤ sum_entering g flow side

-- so it is at most the capacity of each cut
abbrev pub ValueIsAtMostCapacity : Type 0
ValueIsAtMostCapacity = (g : FlowNetwork) (flow : List ℤ) (side : List Bool) → IsFlow g flow → IsCut g side →
    value g flow ≤ℤ capacity g side

-- and is that capacity exactly where no residual arc leaves the cut
abbrev pub ValueMeetsCapacity : Type 0
ValueMeetsCapacity = (g : FlowNetwork) (flow : List ℤ) (side : List Bool) → IsProper g → IsFlow g flow → IsCut g side →
    (value g flow ≡ capacity g side) ↔ HasNoWayOut g flow side

-- where the two meet, the flow is greatest and the cut is least
pub record IsMeetingPair (g : FlowNetwork) (flow : List ℤ) (side : List Bool) : Type 0 where
  pub greatest : IsGreatest g flow
  pub least : IsLeast g side

abbrev pub MeetingIsBest : Type 0
MeetingIsBest = (g : FlowNetwork) (flow : List ℤ) (side : List Bool) → IsFlow g flow → IsCut g side →
    value g flow ≡ capacity g side → IsMeetingPair g flow side

-- a flow is greatest exactly where its residual graph does not reach the sink
abbrev pub GreatestMissesSink : Type 0
GreatestMissesSink = (g : FlowNetwork) (flow : List ℤ) → IsProper g → IsFlow g flow →
    IsGreatest g flow ↔ (Reaches g flow g.source g.sink → ⊥)

-- what it reaches is then the smallest least cut, whichever greatest flow it is, and has the flow's value as its capacity
abbrev pub ReachIsSmallestLeast : Type 0
ReachIsSmallestLeast = (g : FlowNetwork) (flow : List ℤ) (side : List Bool) → IsProper g → IsGreatest g flow → IsReach g flow side →
    IsSmallestLeast g side

abbrev pub GreatestMeetsReach : Type 0
GreatestMeetsReach = (g : FlowNetwork) (flow : List ℤ) (side : List Bool) → IsProper g → IsGreatest g flow → IsReach g flow side →
    value g flow ≡ capacity g side

-- each network has a greatest flow and a smallest least cut, and the value of the one is the capacity of the other
pub record IsSolved (g : FlowNetwork) : Type 0 where
  pub flow : List ℤ
  pub side : List Bool
  pub greatest : IsGreatest g flow
  pub reach : IsReach g flow side
  pub smallest : IsSmallestLeast g side
  pub meet : value g flow ≡ capacity g side

abbrev pub GreatestExists : Type 0
GreatestExists = (g : FlowNetwork) → IsProper g → IsSolved g

-- there is one smallest least cut, one least value and one least size
abbrev pub OneSmallestLeast : Type 0
OneSmallestLeast = (g : FlowNetwork) (side other : List Bool) → IsSmallestLeast g side → IsSmallestLeast g other → side ≡ other

abbrev pub OneLeastValue : Type 0
OneLeastValue = (g : FlowNetwork) (x y : ℤ) → IsLeastValue g x → IsLeastValue g y → x ≡ y

abbrev pub OneLeastSize : Type 0
OneLeastSize = (g : FlowNetwork) (x y : ℕ) → IsLeastSize g x → IsLeastSize g y → x ≡ y

-- a preflow with valid labels and no active node is a greatest flow
abbrev pub LabelsMakeGreatest : Type 0
LabelsMakeGreatest = (g : FlowNetwork) (flow : List ℤ) (labels : List ℕ) → IsProper g → IsPreflow g flow → HasValidLabels g flow labels →
    ((v : ℕ) → IsActive g flow v → ⊥) → IsGreatest g flow

-- the label of an active node is at most 2 n - 2
abbrev pub ActiveLabelIsBounded : Type 0
ActiveLabelIsBounded = (g : FlowNetwork) (flow : List ℤ) (labels : List ℕ) (v : ℕ) → IsProper g → IsPreflow g flow →
    HasValidLabels g flow labels → IsActive g flow v → slice_index_or labels v 0 + 2 ≤ 2 * g.nodes
