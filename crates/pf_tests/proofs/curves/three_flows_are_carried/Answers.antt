use Rattle.pf_curve.proofs.Envelopes.{points_inside}
use Rattle.pf_tests.proofs.curves.three_flows_are_carried.Goals as goal

pub flows_at-requires : goal.flows_at-requires
flows_at-requires g c =
    points_inside c.in_ok-net.net c.in_ok-finder.finder c.in_ok-found.found.points c.points.result.now c.in_ok-found.found.cuts c.frame.ensures.built.monotone
    c.in_ok-found.ensures.curve c.in_ok-finder.ensures c.points.ensures.points
