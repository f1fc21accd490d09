-- What the mirror of a network keeps, and what it turns round.
use Rattle.std.specs.Prelude.{◌≡◌, ℤ, neg_ℤ, Bool, List, reverse}
use Rattle.pf_model.specs.Fraction.{Fraction}
use Rattle.pf_model.specs.Network.{Network, IsMonotone, IsNetworkCut, IsInInterval, network_at, cut_a, cut_b}
use Rattle.pf_model.specs.Curve.{IsCurve, CertifiesCurve, IsPoint}
use Rattle.pf_model.specs.Mirror.{mirror, negative, turned_points}

-- the mirror's mirror is the network itself
abbrev pub MirrorTwice : Type 0
MirrorTwice = (net : Network) → mirror (mirror net) ≡ net

-- the mirror of a monotone network is monotone; its sense is the other one
abbrev pub MirrorIsMonotone : Type 0
MirrorIsMonotone = (net : Network) → IsMonotone net → IsMonotone (mirror net)

abbrev pub MirrorInterval : Type 0
MirrorInterval = (net : Network) (x : Fraction) → IsInInterval net x → IsInInterval (mirror net) (negative x)

-- at the negated parameter the capacities are the same, so the same cuts are least, and the same flows greatest
abbrev pub MirrorCapacities : Type 0
MirrorCapacities = (net : Network) (x : Fraction) → network_at (mirror net) (negative x) ≡ network_at net x

-- the same sides are cuts; the line (A, B) becomes (A, -B)
abbrev pub MirrorCuts : Type 0
MirrorCuts = (net : Network) (side : List Bool) → IsNetworkCut net side → IsNetworkCut (mirror net) side

abbrev pub MirrorConstants : Type 0
MirrorConstants = (net : Network) (side : List Bool) → cut_a (mirror net) side ≡ cut_a net side

abbrev pub MirrorSlopes : Type 0
MirrorSlopes = (net : Network) (side : List Bool) → cut_b (mirror net) side ≡ neg_ℤ (cut_b net side)

-- points, curves and certificates are turned round
abbrev pub MirrorPoint : Type 0
MirrorPoint = (net : Network) (x : Fraction) (side : List Bool) (flow : List ℤ) → IsPoint net x side flow →
    IsPoint (mirror net) (negative x) side flow

abbrev pub MirrorCurve : Type 0
MirrorCurve = (net : Network) (points : List Fraction) (cuts : List (List Bool)) → IsCurve net points cuts →
    IsCurve (mirror net) (turned_points points) (reverse cuts)

abbrev pub MirrorCertificate : Type 0
MirrorCertificate = (net : Network) (points : List Fraction) (cuts : List (List Bool)) (flows : List (List ℤ)) →
    CertifiesCurve net points cuts flows → CertifiesCurve (mirror net) (turned_points points) (reverse cuts) (reverse flows)

-- and back again: what holds of the mirror holds of the network, turned round
abbrev pub PointOfMirror : Type 0
PointOfMirror = (net : Network) (x : Fraction) (side : List Bool) (flow : List ℤ) → IsPoint (mirror net) x side flow →
    IsPoint net (negative x) side flow

abbrev pub CurveOfMirror : Type 0
CurveOfMirror = (net : Network) (points : List Fraction) (cuts : List (List Bool)) → IsCurve (mirror net) points cuts →
    IsCurve net (turned_points points) (reverse cuts)

abbrev pub CertificateOfMirror : Type 0
CertificateOfMirror = (net : Network) (points : List Fraction) (cuts : List (List Bool)) (flows : List (List ℤ)) →
    CertifiesCurve (mirror net) points cuts flows → CertifiesCurve net (turned_points points) (reverse cuts) (reverse flows)
