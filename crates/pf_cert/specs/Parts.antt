-- The parts of the certificate of a curve, each of which one function tests.
use Rattle.std.specs.Prelude.{ℕ, ◌+◌, ◌<◌, ℤ, Bool, List, length, get_or}
use Rattle.pf_model.specs.Fraction.{Fraction, IsBelow}
use Rattle.pf_model.specs.Flow.{IsFlow}
use Rattle.pf_model.specs.Digraph.{Digraph}
use Rattle.pf_model.specs.Residual.{IsReach}
use Rattle.pf_model.specs.Network.{Network, IsNetworkCut, network_at}
use Rattle.pf_model.specs.Curve.{Meets, own_point, point_at, cut_at, flow_at}
use Rattle.pf_frame.specs.Numbers.{IsBounded}

-- each fraction is below the next
pub record Rise (points : List Fraction) : Type 0 where
  pub each : (i : ℕ) (d : Fraction) → i + 1 < length points → IsBelow (get_or points i d) (get_or points (i + 1) d)

-- each side has a truth value per node, true at the source and false at the sink
pub record AreCuts (net : Network) (cuts : List (List Bool)) : Type 0 where
  pub each : (i : ℕ) → i < length cuts → IsNetworkCut net (cut_at cuts i)

-- a flow at each point
pub record AreFlows (net : Network) (points : List Fraction) (flows : List (List ℤ)) : Type 0 where
  pub each : (j : ℕ) → j < length points → IsFlow (network_at net (point_at net points j)) (flow_at flows j)

-- each list has a number per arc, from 0 to below 2 ^ 104
pub record AreBounded (g : Digraph) (flows : List (List ℤ)) : Type 0 where
  pub each : (j : ℕ) → j < length flows → IsBounded g (flow_at flows j)

-- cut i is what the residual graph of flow j reaches from the source, at point j
abbrev pub IsReached : Network → List Fraction → List (List Bool) → List (List ℤ) → ℕ → ℕ → Type 0
IsReached net points cuts flows j i = IsReach (network_at net (point_at net points j)) (flow_at flows j) (cut_at cuts i)

-- the flows at the left and at the right point of cut i have its capacity there as their values, and the flow at its own point reaches exactly it
pub record CertifiesCut (net : Network) (points : List Fraction) (cuts : List (List Bool)) (flows : List (List ℤ)) (i : ℕ) : Type 0 where
  pub left : Meets net points cuts flows i i
  pub right : Meets net points cuts flows (i + 1) i
  pub reach : IsReached net points cuts flows (own_point net.sense i) i

-- this holds of each cut
pub record CertifiesCuts (net : Network) (points : List Fraction) (cuts : List (List Bool)) (flows : List (List ℤ)) : Type 0 where
  pub each : (i : ℕ) → i < length cuts → CertifiesCut net points cuts flows i
