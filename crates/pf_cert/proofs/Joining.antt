-- The parts make up the certificate, and a certificate has its parts.
use Rattle.std.proofs.Common.{◌≡◌, List, length, Bool}
use Rattle.std.specs.Prelude.{ℤ}
use Rattle.pf_model.specs.Fraction.{Fraction}
use Rattle.pf_model.specs.Network.{Network}
use Rattle.pf_model.specs.Curve.{IsDivision, CertifiesCurve, SlopesFall}
use Rattle.pf_cert.specs.Parts.{AreCuts, AreFlows, CertifiesCuts}

pub joined : (net : Network) (points : List Fraction) (cuts : List (List Bool)) (flows : List (List ℤ)) → length flows ≡ length points →
    IsDivision net points cuts → AreCuts net cuts → SlopesFall net cuts → AreFlows net points flows → CertifiesCuts net points cuts flows →
    CertifiesCurve net points cuts flows
joined net points cuts flows count d c s f k = record {
  division = d;
  count = count;
  flow_is = f.each;
  left = λ i low. (k.each i low).left;
  right = λ i low. (k.each i low).right;
  reach = λ i low. (k.each i low).reach;
  cut = c.each;
  slopes = s;
}

pub parts_of : (net : Network) (points : List Fraction) (cuts : List (List Bool)) (flows : List (List ℤ)) →
    CertifiesCurve net points cuts flows → CertifiesCuts net points cuts flows
parts_of net points cuts flows c = record { each = λ i low. record { left = c.left i low; right = c.right i low; reach = c.reach i low } }
