-- Answers over networks, and the shapes that their numbers and lists have, whatever they say.
use Rattle.std.specs.Prelude.{◌≡◌, ℕ, ◌+◌, ◌<◌, ◌≤◌, ◌^◌, ℤ, pos, neg_ℤ, ◌<ℤ◌, Bool, List, length, All}
use Rattle.pf_model.specs.Fraction.{Fraction, IsLowest, IsBoundedFraction}
use Rattle.pf_model.specs.Limits.{capacity_bound}
use Rattle.pf_model.specs.Network.{Network, IsNetworkCut}

-- a cut and a flow at one parameter
pub record Point : Type 0 where
  pub at : Fraction
  pub side : List Bool
  pub flow : List ℤ

-- points, a cut between each and the next, and a flow at each point
pub record Curve : Type 0 where
  pub points : List Fraction
  pub cuts : List (List Bool)
  pub flows : List (List ℤ)

-- the least value and the least size at one parameter
pub record Row : Type 0 where
  pub at : Fraction
  pub value : ℤ
  pub size : ℕ

-- the number lies strictly between the bound and its negation
pub record IsWithinSize (bound : ℕ) (number : ℤ) : Type 0 where
  pub low : neg_ℤ (pos bound) <ℤ number
  pub high : number <ℤ pos bound

-- a parameter in lowest terms, within the widths that the code keeps
pub record IsFractionShape (x : Fraction) : Type 0 where
  pub bounds : IsBoundedFraction x
  pub lowest : IsLowest x

-- one number for each arc, each of a size below the bound of capacities
pub record IsFlowShape (net : Network) (flow : List ℤ) : Type 0 where
  pub full : length flow ≡ length net.arcs
  pub each : All (IsWithinSize capacity_bound) flow

-- a fraction, a side that is true at the source and false at the sink, and a number for each arc
pub record IsPointShape (net : Network) (point : Point) : Type 0 where
  pub at : IsFractionShape point.at
  pub side : IsNetworkCut net point.side
  pub flow : IsFlowShape net point.flow

-- at least one cut, a point more than cuts, and a flow for each point
pub record IsCurveShape (net : Network) (curve : Curve) : Type 0 where
  pub some : 0 < length curve.cuts
  pub count : length curve.points ≡ length curve.cuts + 1
  pub flow_count : length curve.flows ≡ length curve.points
  pub points : All IsFractionShape curve.points
  pub cuts : All (IsNetworkCut net) curve.cuts
  pub flows : All (IsFlowShape net) curve.flows

-- a fraction, a sum of capacities and a number of nodes
pub record IsRowShape (row : Row) : Type 0 where
  pub at : IsFractionShape row.at
  pub value : IsWithinSize (2 ^ 119) row.value
  pub size : row.size ≤ 2 ^ 13
