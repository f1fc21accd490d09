-- What holds of the curve of a monotone network.
use Rattle.std.specs.Prelude.{◌≡◌, ℕ, ◌+◌, ◌<◌, ◌≤◌, ℤ, Bool, List, length, ◌↔◌}
use Rattle.pf_model.specs.Fraction.{Fraction, IsParameter, IsAtMost, IsEqual, IsLowest}
use Rattle.pf_model.specs.Cut.{IsCut, IsLeast, IsSmallestLeast}
use Rattle.pf_model.specs.Flow.{IsGreatest}
use Rattle.pf_model.specs.Residual.{IsReach}
use Rattle.pf_model.specs.Network.{Network, IsMonotone, IsInInterval, IsNetworkCut, network_at}
use Rattle.pf_model.specs.Curve.{IsDivision, IsCurve, CertifiesCurve, SlopesFall, IsPoint, point_at, cut_at}

-- the cuts of a network are those of it at any parameter
abbrev pub CutsAreOfNetwork : Type 0
CutsAreOfNetwork = (net : Network) (x : Fraction) (side : List Bool) → IsNetworkCut net side ↔ IsCut (network_at net x) side

-- what certifies a curve proves it
abbrev pub CertificateImpliesCurve : Type 0
CertificateImpliesCurve = (net : Network) (points : List Fraction) (cuts : List (List Bool)) (flows : List (List ℤ)) → IsMonotone net →
    CertifiesCurve net points cuts flows → IsCurve net points cuts

-- a cut that is the smallest least cut at some parameter of the interval
pub record IsSmallestSomewhere (net : Network) (side : List Bool) : Type 0 where
  pub at : Fraction
  pub inside : IsInInterval net at
  pub smallest : IsSmallestLeast (network_at net at) side

-- cuts that are least between neighbouring points, whose slopes fall strictly, each the smallest least cut somewhere
pub record HasLeastParts (net : Network) (points : List Fraction) (cuts : List (List Bool)) : Type 0 where
  pub division : IsDivision net points cuts
  pub least : (i : ℕ) → i < length cuts → (x : Fraction) → IsParameter x →
      IsAtMost (point_at net points i) x → IsAtMost x (point_at net points (i + 1)) →
      IsLeast (network_at net x) (cut_at cuts i)
  pub somewhere : (i : ℕ) → i < length cuts → IsSmallestSomewhere net (cut_at cuts i)
  pub slopes : SlopesFall net cuts

-- these are a curve: each is then the smallest least cut at its own point, whichever the parameter was, and neighbours nest
abbrev pub LeastPartsAreCurve : Type 0
LeastPartsAreCurve = (net : Network) (points : List Fraction) (cuts : List (List Bool)) → IsMonotone net →
    HasLeastParts net points cuts → IsCurve net points cuts

-- each point lies in the interval
abbrev pub PointsAreInside : Type 0
PointsAreInside = (net : Network) (points : List Fraction) (cuts : List (List Bool)) → IsMonotone net → IsDivision net points cuts →
    (i : ℕ) → i ≤ length cuts → IsInInterval net (point_at net points i)

-- a parameter lies between two neighbouring points, where the cut between them is least
pub record IsCovered (net : Network) (points : List Fraction) (cuts : List (List Bool)) (x : Fraction) : Type 0 where
  pub part : ℕ
  pub in_range : part < length cuts
  pub after : IsAtMost (point_at net points part) x
  pub before : IsAtMost x (point_at net points (part + 1))
  pub least : IsLeast (network_at net x) (cut_at cuts part)

-- so a curve has a least cut for every parameter of the interval
abbrev pub CurveCovers : Type 0
CurveCovers = (net : Network) (points : List Fraction) (cuts : List (List Bool)) (x : Fraction) → IsMonotone net → IsCurve net points cuts →
    IsInInterval net x → IsCovered net points cuts x

-- a network of n nodes has at most n - 1 cuts, so at most n - 2 breakpoints
abbrev pub CurveIsShort : Type 0
CurveIsShort = (net : Network) (points : List Fraction) (cuts : List (List Bool)) → IsMonotone net → IsCurve net points cuts →
    length cuts < net.nodes

-- two curves of one network have the same cuts, and equal points
pub record IsSameCurve (net : Network) (points points' : List Fraction) (cuts cuts' : List (List Bool)) : Type 0 where
  pub same_cuts : cuts ≡ cuts'
  pub same_points : (i : ℕ) → i ≤ length cuts → IsEqual (point_at net points i) (point_at net points' i)

abbrev pub OneCurve : Type 0
OneCurve = (net : Network) (points points' : List Fraction) (cuts cuts' : List (List Bool)) → IsMonotone net →
    IsCurve net points cuts → IsCurve net points' cuts' → IsSameCurve net points points' cuts cuts'

-- and the same points, where these are in lowest terms
abbrev pub AreLowest : Network → List Fraction → Type 0
AreLowest net points = (i : ℕ) → i < length points → IsLowest (point_at net points i)

abbrev pub OneCurveInLowestTerms : Type 0
OneCurveInLowestTerms = (net : Network) (points points' : List Fraction) (cuts cuts' : List (List Bool)) → IsMonotone net →
    IsCurve net points cuts → IsCurve net points' cuts' → AreLowest net points → AreLowest net points' → points ≡ points'

-- a greatest flow at a parameter, and what its residual graph reaches, are a point of the curve
abbrev pub PointOfGreatest : Type 0
PointOfGreatest = (net : Network) (x : Fraction) (side : List Bool) (flow : List ℤ) → IsMonotone net → IsInInterval net x →
    IsGreatest (network_at net x) flow → IsReach (network_at net x) flow side → IsPoint net x side flow
