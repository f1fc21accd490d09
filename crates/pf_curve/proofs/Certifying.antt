-- A curve with a greatest flow at each point has a certificate.
use Rattle.std.proofs.Common.{◌≡◌, ℕ, ◌+◌, ◌<◌, ◌≤◌, List, length, Bool, arith, subst}
use Rattle.std.specs.Prelude.{ℤ}
use Rattle.std.proofs.lemmas.Int.{ints}
use Rattle.pf_model.specs.Fraction.{Fraction}
use Rattle.pf_model.specs.Cut.{FlowNetwork, IsProper, IsLeast, IsSmallestLeast, capacity}
use Rattle.pf_model.specs.Flow.{IsGreatest, value}
use Rattle.pf_model.specs.Residual.{IsReach}
use Rattle.pf_model.specs.Network.{Network, IsMonotone, network_at}
use Rattle.pf_model.specs.Curve.{IsCurve, CertifiesCurve, own_point, point_at, cut_at, flow_at}
use Rattle.pf_model.proofs.Exists.{reach_exists}
use Rattle.pf_model.proofs.Simple.{smallest_of_greatest, value_of_greatest}
use Rattle.pf_model.proofs.Unique.{smallest_unique}
use Rattle.pf_model.proofs.Affine.{proper_at}
use Rattle.pf_model.proofs.Certificate.{point_inside, at_most_reflexive, own_in_range}

-- the value of a greatest flow is the capacity of each least cut
value_of_least : (g : FlowNetwork) (flow : List ℤ) (side : List Bool) → IsProper g → IsGreatest g flow → IsLeast g side → value g flow ≡ capacity g side
value_of_least g flow side proper best l =
    let found = reach_exists g flow proper in
    let smallest = smallest_of_greatest g flow found.0 proper best found.1 in
    let e = value_of_greatest g flow found.0 proper best found.1 in
    let h = smallest.least.least side l.cut in
    let k = l.least found.0 smallest.least.cut in
    omega (arith, ints, e, h, k)

-- what the residual graph of a greatest flow reaches is the smallest least cut
reach_of_smallest : (g : FlowNetwork) (flow : List ℤ) (side : List Bool) → IsProper g → IsGreatest g flow → IsSmallestLeast g side → IsReach g flow side
reach_of_smallest g flow side proper best s =
    let found = reach_exists g flow proper in
    let same = smallest_unique g found.0 side (smallest_of_greatest g flow found.0 proper best found.1) s in
    let P : List Bool → Type 0 = λ x. IsReach g flow x in
    subst P same found.1

pub certificate_from_curve : (net : Network) (points : List Fraction) (cuts : List (List Bool)) (flows : List (List ℤ)) → IsMonotone net →
    IsCurve net points cuts → length flows ≡ length points →
    ((j : ℕ) → j < length points → IsGreatest (network_at net (point_at net points j)) (flow_at flows j)) →
    CertifiesCurve net points cuts flows
certificate_from_curve net points cuts flows m c count best =
    let d = c.division in
    let proper : (j : ℕ) → j ≤ length cuts → IsProper (network_at net (point_at net points j)) =
    λ j low. proper_at net (point_at net points j) m (point_inside net points cuts m d j low) in
    record {
      division = d;
      count = count;
      flow_is = λ j low. (best j low).flow_is;
      left = λ i low.
          let rise = d.rise i low in
          let here = c.least i low (point_at net points i) (d.parameters i (omega (arith, d.count))) (at_most_reflexive (point_at net points i)) (omega (arith, ints, rise)) in
          value_of_least (network_at net (point_at net points i)) (flow_at flows i) (cut_at cuts i) (proper i (omega arith)) (best i (omega (arith, d.count))) here;
      right = λ i low.
          let rise = d.rise i low in
          let here = c.least i low (point_at net points (i + 1)) (d.parameters (i + 1) (omega (arith, d.count))) (omega (arith, ints, rise)) (at_most_reflexive (point_at net points (i + 1))) in
          value_of_least (network_at net (point_at net points (i + 1))) (flow_at flows (i + 1)) (cut_at cuts i) (proper (i + 1) (omega arith)) (best (i + 1) (omega (arith, d.count))) here;
      reach = λ i low.
          let most = own_in_range net.sense i (length cuts) low in
          let j = own_point net.sense i in
          reach_of_smallest (network_at net (point_at net points j)) (flow_at flows j) (cut_at cuts i) (proper j most) (best j (omega (arith, d.count, most))) (c.smallest i low);
      cut = λ i low.
          let cut = (c.smallest i low).least.cut in
          record { full = cut.full; with_source = cut.with_source; without_sink = cut.without_sink };
      slopes = c.slopes;
    }
