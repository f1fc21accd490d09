use Rattle.std.proofs.Common.{ℕ, ◌<◌}
use Rattle.pf_model.specs.Flow.{IsFlow}
use Rattle.pf_model.specs.Network.{network_at}
use Rattle.pf_model.specs.Curve.{point_at, flow_at}
use Rattle.pf_frame.specs.Numbers.{IsBounded}
use Rattle.pf_frame.specs.Scratch.{KeepsPlaces}
use Rattle.pf_net.specs.Limits.{digraph_of}
use Rattle.pf_cert.proofs.flows.are_flows.Given as goal

-- the lists at the points before the point j are flows
abbrev pub invariant-points : goal.invariant-points
invariant-points l = record {
  each : (k : ℕ) → k < l.j → IsFlow (network_at l.net (point_at l.net l.curve.points k)) (flow_at l.curve.flows k);
  bounded : (k : ℕ) → k < l.j → IsBounded (digraph_of l.net) (flow_at l.curve.flows k);
  places : KeepsPlaces l.fn.scratch l.scratch;
}
