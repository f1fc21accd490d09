use Rattle.std.proofs.Common.{◌≡◌, List, Bool, refl}
use Rattle.std.specs.Prelude.{All}
use Rattle.pf_model.specs.Fraction.{Fraction}
use Rattle.pf_model.specs.Network.{Network}
use Rattle.pf_model.specs.Curve.{IsCurve}
use Rattle.pf_model.specs.Answer.{IsFractionShape}
use Rattle.pf_curve.specs.CutFunction.{CutFunction}
use Rattle.pf_curve.proofs.Envelopes.{curve_of_parts}
use Rattle.pf_curve.proofs.function.rising_cuts.Goals as goal

curve_made : (net : Network) (points : List Fraction) (cuts : List (List Bool)) (made : CutFunction) →
    made ≡ record { points = points; cuts = cuts } → IsCurve net points cuts → IsCurve net made.points made.cuts
curve_made net points cuts made e h = rw e h

shape_made : (points : List Fraction) (cuts : List (List Bool)) (made : CutFunction) →
    made ≡ record { points = points; cuts = cuts } → All IsFractionShape points → All IsFractionShape made.points
shape_made points cuts made e h = rw e h

pub returns-clause-curve : goal.returns-clause-curve
returns-clause-curve c =
    let m = c.frame.ensures.built.monotone in
    let curve = curve_of_parts c.args.net.now c.args.net.now (λ p. p.right) (λ p. p.member.at) (λ p. p.member.line) (λ p. p.member.side.items) c.in_ok-parts.parts.items
    c.as_slice.result.now c.args.net.now.low c.args.net.now.high c.lo.result.now c.in_ok-points.points c.in_ok-cuts.cuts m
    refl refl refl c.lo.ensures c.as_slice.ensures.value c.in_ok-parts.ensures.members c.in_ok-parts.ensures.envelope
    c.in_ok-points.ensures.points c.in_ok-cuts.ensures in
    curve_made c.args.net.now c.in_ok-points.points c.in_ok-cuts.cuts c.new.result c.new.ensures curve

pub returns-clause-shape : goal.returns-clause-shape
returns-clause-shape c = shape_made c.in_ok-points.points c.in_ok-cuts.cuts c.new.result c.new.ensures c.in_ok-points.ensures.shape
