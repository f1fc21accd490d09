use Rattle.std.proofs.Common.{refl}
use Rattle.std.proofs.lemmas.Bool.{OnTrue_from}
use Rattle.pf_model.specs.Curve.{IsCurve}
use Rattle.pf_model.proofs.Certificate.{certified_is_curve}
use Rattle.pf_cert.proofs.Joining.{joined, parts_of}
use Rattle.pf_cert.proofs.check.check_curve.Goals as goal

pub returns-clause-exact : goal.returns-clause-exact
returns-clause-exact c =
    let net = c.args.net.now in
    let points = c.args.curve.now.points in
    let cuts = c.args.curve.now.cuts in
    let flows = c.args.curve.now.flows in (
      λ told. joined net points cuts flows c.points.ensures.flow_count (c.if-not-is_division.ensures.0 refl) (c.if-not-are_cuts.ensures.0 refl)
          (c.if-not-slopes_fall.ensures.0 refl) (c.if-not-are_flows.ensures.exact.0 refl) (c.certifies_cuts.ensures.exact.0 told),
      λ k. c.certifies_cuts.ensures.exact.1 (parts_of net points cuts flows k),
    )

pub returns-clause-curve : goal.returns-clause-curve
returns-clause-curve c =
    let net = c.args.net.now in
    let points = c.args.curve.now.points in
    let cuts = c.args.curve.now.cuts in
    let flows = c.args.curve.now.flows in
    let built = c.frame.ensures.built in
    OnTrue_from c.certifies_cuts.result (IsCurve net points cuts)
    (λ told. certified_is_curve net points cuts flows built.monotone
    (joined net points cuts flows c.points.ensures.flow_count (c.if-not-is_division.ensures.0 refl) (c.if-not-are_cuts.ensures.0 refl)
    (c.if-not-slopes_fall.ensures.0 refl) (c.if-not-are_flows.ensures.exact.0 refl) (c.certifies_cuts.ensures.exact.0 told)))
