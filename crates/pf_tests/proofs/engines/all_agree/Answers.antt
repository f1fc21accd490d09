use Rattle.std.proofs.Common.{◌≡◌, ℕ, ◌<◌, List, length, get_or, ap, sym, subst, arith, ◌∙◌}
use Rattle.std.proofs.lemmas.List.{get_or_default}
use Rattle.pf_model.specs.Fraction.{Fraction}
use Rattle.pf_model.specs.Flow.{IsFlow}
use Rattle.pf_model.specs.Network.{Network, IsInInterval, network_at}
use Rattle.pf_model.specs.Curve.{point_at, flow_at}
use Rattle.pf_model.proofs.Certificate.{point_inside}
use Rattle.pf_tests.proofs.engines.all_agree.Goals as goal

-- the point that the code reads
point_here : (net : Network) (points listed : List Fraction) (i : ℕ) (x : Fraction) → listed ≡ points → i < length listed → x ≡ get_or listed i x →
    point_at net points i ≡ x
point_here net points listed i x same low is = ap (λ (xs : List Fraction). get_or xs i net.low) (sym same) ∙ get_or_default listed i net.low x low ∙ sym is

pub values_agree-requires-clause-inside : goal.values_agree-requires-clause-inside
values_agree-requires-clause-inside c =
    let net = c.args.net.now in
    let e = point_here net c.args.curve.now.points c.points-points.result.now c.points.i c.index-points-i.result c.points-points.ensures.points c.points-test.true c.index-points-i.is in
    let count = ap length c.points-points.ensures.points in
    let P : Fraction → Type 0 = λ x. IsInInterval net x in
    subst P e (point_inside net c.args.curve.now.points c.args.curve.now.cuts c.frame.ensures.built.monotone c.requires.curve.division c.points.i
    (omega (arith, c.points-test.true, count, c.points-points.ensures.count)))

pub values_agree-requires-clause-labelled : goal.values_agree-requires-clause-labelled
values_agree-requires-clause-labelled c =
    let net = c.args.net.now in
    let e = point_here net c.args.curve.now.points c.points-points.result.now c.points.i c.index-points-i.result c.points-points.ensures.points c.points-test.true c.index-points-i.is in
    let count = ap length c.points-points.ensures.points in
    let P : Fraction → Type 0 = λ x. IsFlow (network_at net x) (flow_at c.args.curve.now.flows c.points.i) in
    rw c.flow.ensures (subst P e (c.requires.curve.flow_is c.points.i (omega (arith, c.points-test.true, count))))
