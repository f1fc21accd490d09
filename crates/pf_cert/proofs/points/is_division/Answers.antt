use Rattle.std.proofs.Common.{length, arith, refl, ap, sym, subst, Bool}
use Rattle.std.specs.Prelude.{All}
use Rattle.std.specs.Bool.{OnTrue}
use Rattle.std.proofs.lemmas.Bool.{false≢true}
use Rattle.pf_model.specs.Fraction.{IsParameter}
use Rattle.pf_cert.specs.Parts.{Rise}
use Rattle.pf_cert.proofs.Neighbours.{division_shown, rise_of}
use Rattle.pf_cert.proofs.points.is_division.Goals as goal

pub rise-requires : goal.rise-requires
rise-requires c = omega (arith, c.if-last-eq0.false)

pub returns-then-last-eq0 : goal.returns-then-last-eq0
returns-then-last-eq0 c =
    let shown = ap length c.points-points.ensures.points in (
      λ told. absurd (false≢true told),
      λ d. absurd (let some = d.some in let count = d.count in omega (arith, shown, some, count, c.if-last-eq0.true)),
    )

pub returns : goal.returns
returns c =
    let net = c.args.net.now in
    let points = c.args.curve.now.points in
    let cuts = c.args.curve.now.cuts in
    let shown = c.points-points.result.now in
    let same = c.points-points.ensures.points in
    let Known : Bool → Type 0 = λ told. OnTrue told (All IsParameter shown) in (
      λ told. division_shown net points shown cuts c.index-points-0.result c.index-points-last.result c.lo.result.now c.hi.result.now same c.lo.ensures c.hi.ensures
          c.points-points.ensures.count (omega (arith, ap length same, c.points-points.ensures.count, c.if-last-eq0.false)) (subst Known told c.rise.ensures.parameters)
          c.index-points-0.is c.index-points-last.is (c.if-not-is_span.ensures.0 refl).0 (c.if-not-is_span.ensures.0 refl).1 (c.rise.ensures.exact.0 told),
      λ d. c.rise.ensures.exact.1 (subst Rise (sym same) (rise_of net points cuts d)),
    )
