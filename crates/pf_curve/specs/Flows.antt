-- Flows at the points of a curve.
use Rattle.std.specs.Prelude.{◌≡◌, ℕ, ◌<◌, ℤ, List, length, All}
use Rattle.pf_model.specs.Fraction.{Fraction}
use Rattle.pf_model.specs.Flow.{IsGreatest}
use Rattle.pf_model.specs.Network.{Network, network_at}
use Rattle.pf_model.specs.Curve.{point_at, flow_at}
use Rattle.pf_model.specs.Answer.{IsFlowShape}

-- a greatest flow at a parameter
pub record IsRow (net : Network) (x : Fraction) (flow : List ℤ) : Type 0 where
  pub greatest : IsGreatest (network_at net x) flow
  pub shape : IsFlowShape net flow

-- so many rows, each with a greatest flow at its point
pub record AreFilled (net : Network) (points : List Fraction) (rows : ℕ) (flows : List (List ℤ)) : Type 0 where
  pub count : length flows ≡ rows
  pub each : (j : ℕ) → j < rows → IsRow net (point_at net points j) (flow_at flows j)

-- a greatest flow at each point
pub record AreGreatest (net : Network) (points : List Fraction) (flows : List (List ℤ)) : Type 0 where
  pub count : length flows ≡ length points
  pub each : (j : ℕ) → j < length points → IsGreatest (network_at net (point_at net points j)) (flow_at flows j)
  pub shape : All (IsFlowShape net) flows
