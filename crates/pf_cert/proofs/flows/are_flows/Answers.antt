use Rattle.std.proofs.Common.{length, arith, refl, ap, below_more}
use Rattle.std.proofs.lemmas.Bool.{false≢true}
use Rattle.pf_model.specs.Flow.{IsFlow}
use Rattle.pf_model.specs.Network.{network_at}
use Rattle.pf_model.specs.Curve.{point_at, flow_at}
use Rattle.pf_frame.specs.Numbers.{IsBounded}
use Rattle.pf_net.specs.Limits.{digraph_of}
use Rattle.pf_cert.proofs.Places.{keeps_again, serves_on}
use Rattle.pf_cert.proofs.Seen.{point_here, inside_here, flow_here, flow_there, bounded_here}
use Rattle.pf_cert.proofs.flows.are_flows.Goals as goal

pub has_flow-requires-clause-inside : goal.has_flow-requires-clause-inside
has_flow-requires-clause-inside c =
    inside_here c.args.net.now c.args.curve.now.points c.points-points.result.now c.args.curve.now.cuts c.points.j c.index-points-j.result c.frame.ensures.built.monotone
    c.requires.division c.points-points.ensures.points c.points-test.true c.index-points-j.is

pub has_flow-requires-clause-room : goal.has_flow-requires-clause-room
has_flow-requires-clause-room c = serves_on _ _ _ _ c.requires.room c.points.invariant.places

pub returns-then-not-has_flow-clause-exact : goal.returns-then-not-has_flow-clause-exact
returns-then-not-has_flow-clause-exact c =
    let net = c.args.net.now in
    let points = c.args.curve.now.points in
    let e = point_here net points c.points-points.result.now c.points.j c.index-points-j.result c.points-points.ensures.points c.points-test.true c.index-points-j.is in (
      λ told. absurd (false≢true told),
      λ f. c.if-not-has_flow.ensures.exact.1 (flow_there net _ _ _ _ e c.flow.ensures (f.each c.points.j (omega (arith, ap length c.points-points.ensures.points, c.points-test.true)))),
    )

pub points-preserved : goal.points-preserved
points-preserved c =
    let net = c.args.net.now in
    let points = c.args.curve.now.points in
    let flows = c.args.curve.now.flows in
    let e = point_here net points c.points-points.result.now c.points.j c.index-points-j.result c.points-points.ensures.points c.points-test.true c.index-points-j.is in
    record {
      each = below_more (λ k. IsFlow (network_at net (point_at net points k)) (flow_at flows k)) c.points.j c.points.invariant.each
          (flow_here net (point_at net points c.points.j) c.index-points-j.result c.flow.result.now (flow_at flows c.points.j) e c.flow.ensures (c.if-not-has_flow.ensures.exact.0 refl));
      bounded = below_more (λ k. IsBounded (digraph_of net) (flow_at flows k)) c.points.j c.points.invariant.bounded
          (bounded_here net c.flow.result.now (flow_at flows c.points.j) c.flow.ensures c.if-not-has_flow.ensures.bounded);
      places = keeps_again _ _ _ c.points.invariant.places c.has_flow.ensures.places;
    }
