use Rattle.std.proofs.Common.{◌≡◌, List, map}
use Rattle.std.specs.Prelude.{ℤ}
use Rattle.pf_model.specs.Fraction.{Fraction}
use Rattle.pf_model.specs.Flow.{IsFlow}
use Rattle.pf_model.specs.Digraph.{Digraph}
use Rattle.pf_model.specs.Network.{Network, capacity_at, network_at}
use Rattle.pf_frame.specs.Numbers.{IsBounded, IsSized}
use Rattle.pf_frame.proofs.FlowTest.{bounded_of_flow, sized_of_bounded}
use Rattle.pf_net.specs.Limits.{digraph_of}
use Rattle.pf_tests.proofs.engines.values_agree.Goals as goal

-- a flow at a parameter is within the bounds of the capacities there
sized_here : (net : Network) (x : Fraction) (frame : Digraph) (caps flow : List ℤ) → frame ≡ digraph_of net → caps ≡ map (capacity_at x) net.arcs →
    IsBounded (digraph_of net) caps → IsFlow (network_at net x) flow → IsSized frame flow
sized_here net x frame caps flow is_frame is_caps bounded f =
    rw is_frame (sized_of_bounded (digraph_of net) flow (bounded_of_flow (digraph_of net) (map (capacity_at x) net.arcs) flow net.source net.sink (rw is_caps at bounded) f.within))

pub value-requires-2-clause-flow : goal.value-requires-2-clause-flow
value-requires-2-clause-flow c =
    sized_here c.args.net.now c.args.at.now c.frame-frame.result.now c.caps_at.new.caps c.args.labelled.now c.frame-frame.ensures.frame
    c.caps_at.ensures.capacities c.caps_at.ensures.bounded c.requires.labelled
