use Rattle.std.proofs.Common.{◌≡◌, arith, List, Bool}
use Rattle.std.specs.Prelude.{ℤ, All}
use Rattle.pf_model.specs.Fraction.{Fraction}
use Rattle.pf_model.specs.Network.{Network, IsMonotone}
use Rattle.pf_model.specs.Curve.{IsCurve, CertifiesCurve}
use Rattle.pf_model.specs.Answer.{Curve, IsCurveShape, IsFractionShape}
use Rattle.pf_curve.specs.Flows.{AreGreatest}
use Rattle.pf_curve.proofs.Envelopes.{shape_of_curve}
use Rattle.pf_curve.proofs.Certifying.{certificate_from_curve}
use Rattle.pf_curve.proofs.function.rising_curve.Goals as goal

curve_made : (net : Network) (points : List Fraction) (cuts : List (List Bool)) (flows : List (List ℤ)) (made : Curve) →
    made ≡ record { points = points; cuts = cuts; flows = flows } → IsCurve net points cuts → IsCurve net made.points made.cuts
curve_made net points cuts flows made e h = rw e h

certificate_made : (net : Network) (points : List Fraction) (cuts : List (List Bool)) (flows : List (List ℤ)) (made : Curve) →
    made ≡ record { points = points; cuts = cuts; flows = flows } → IsMonotone net → IsCurve net points cuts → AreGreatest net points flows →
    CertifiesCurve net made.points made.cuts made.flows
certificate_made net points cuts flows made e m h best =
    rw e (certificate_from_curve net points cuts flows m h best.count (λ j low. best.each j (omega (arith, low, best.count))))

shape_made : (net : Network) (points : List Fraction) (cuts : List (List Bool)) (flows : List (List ℤ)) (made : Curve) →
    made ≡ record { points = points; cuts = cuts; flows = flows } → IsCurve net points cuts → All IsFractionShape points → AreGreatest net points flows →
    IsCurveShape net made
shape_made net points cuts flows made e h shape best = rw e (shape_of_curve net points cuts flows h shape best)

pub curve_with-requires : goal.curve_with-requires
curve_with-requires c = c.in_ok-searched.ensures.flows.count

pub returns-clause-curve : goal.returns-clause-curve
returns-clause-curve c =
    curve_made c.args.net.now c.in_ok-searched.searched.found.points c.in_ok-searched.searched.found.cuts c.in_ok-searched.searched.rows c.in_ok-made.made c.in_ok-made.ensures
    c.in_ok-searched.ensures.curve

pub returns-clause-certificate : goal.returns-clause-certificate
returns-clause-certificate c =
    certificate_made c.args.net.now c.in_ok-searched.searched.found.points c.in_ok-searched.searched.found.cuts c.in_ok-searched.searched.rows c.in_ok-made.made c.in_ok-made.ensures
    c.in_ok-searched.ensures.monotone c.in_ok-searched.ensures.curve c.in_ok-searched.ensures.flows

pub returns-clause-shape : goal.returns-clause-shape
returns-clause-shape c =
    shape_made c.args.net.now c.in_ok-searched.searched.found.points c.in_ok-searched.searched.found.cuts c.in_ok-searched.searched.rows c.in_ok-made.made c.in_ok-made.ensures
    c.in_ok-searched.ensures.curve c.in_ok-searched.ensures.shape c.in_ok-searched.ensures.flows
