use Rattle.std.proofs.Common.{arith, refl, sym, ◌∙◌}
use Rattle.std.proofs.lemmas.Bool.{false≢true}
use Rattle.pf_cert.proofs.Neighbours.{RisesAt, pairs_more, rises_here, rises_told, all_parameters, less_is}
use Rattle.pf_cert.proofs.points.rise.Goals as goal

pub returns-then-not-is_lt-clause-exact : goal.returns-then-not-is_lt-clause-exact
returns-then-not-is_lt-clause-exact c = (
  λ told. absurd (false≢true told),
  λ r. c.if-not-is_lt.ensures
      ∙ (less_is c.cmp.result c.index-points-i.result c.index-points-i-in-points.result c.cmp.ensures.order).1
      (rises_told c.args.points.now c.points.i c.index-points-i.result c.index-points-i-in-points.result c.points.auto.i c.points-test.true
      c.index-points-i.is c.index-points-i-in-points.is r),
)

pub points-preserved : goal.points-preserved
points-preserved c =
    pairs_more (RisesAt c.args.points.now) c.points.i c.points.auto.i c.points.invariant
    (rises_here c.args.points.now c.points.i c.index-points-i.result c.index-points-i-in-points.result c.points.auto.i c.points-test.true
    c.index-points-i.is c.index-points-i-in-points.is (record {
      first = c.cmp.ensures.parameters.0;
      second = c.cmp.ensures.parameters.1;
      below = (less_is c.cmp.result c.index-points-i.result c.index-points-i-in-points.result c.cmp.ensures.order).0 (sym c.if-not-is_lt.ensures);
    }))

pub returns-clause-exact : goal.returns-clause-exact
returns-clause-exact c = (
  λ told. record { each = λ k d low. (c.points.invariant k (omega (arith, low, c.points-test.false)) d).below },
  λ r. refl,
)

pub returns-clause-parameters : goal.returns-clause-parameters
returns-clause-parameters c = all_parameters c.args.points.now c.requires (λ k low. c.points.invariant k (omega (arith, low, c.points-test.false)))
