-- A greatest flow at a parameter of the interval, and what its residual graph reaches.
use Rattle.std.proofs.Common.{◌≡◌, ℕ, ◌<◌, ◌^◌, List, length, get_or, map, Bool, arith, inl, inr, ◌∙◌}
use Rattle.std.specs.Prelude.{ℤ, pos, ◌≤ℤ◌, ◌<ℤ◌, ◌⊎◌}
use Rattle.std.proofs.lemmas.Int.{ints}
use Rattle.std.proofs.lemmas.List.{length-map, get_or_default}
use Rattle.pf_model.specs.Fraction.{Fraction, IsBelow, IsBoundedFraction, IsLowest}
use Rattle.pf_model.specs.Cut.{at_arc}
use Rattle.pf_model.specs.Flow.{IsGreatest, IsWithin}
use Rattle.pf_model.specs.Residual.{IsReach}
use Rattle.pf_model.specs.Digraph.{Digraph, network_of}
use Rattle.pf_model.specs.Network.{Network, IsInInterval, network_at, capacity_at, ends_of}
use Rattle.pf_model.specs.Curve.{IsPoint}
use Rattle.pf_model.specs.Answer.{IsPointShape, IsFlowShape, IsFractionShape, IsWithinSize}
use Rattle.pf_model.proofs.Simple.{point_of_greatest}
use Rattle.pf_frame.specs.Numbers.{IsBounded}
use Rattle.pf_net.specs.Limits.{IsBuilt, digraph_of}

-- the network at a parameter, from the capacities that the code has written
pub greatest_here : (net : Network) (x : Fraction) (caps flow : List ℤ) → caps ≡ map (capacity_at x) net.arcs →
    IsGreatest (network_of (digraph_of net) caps net.source net.sink) flow → IsGreatest (network_at net x) flow
greatest_here net x caps flow e h = rw e at h

pub reach_here : (net : Network) (x : Fraction) (caps flow : List ℤ) (side : List Bool) → caps ≡ map (capacity_at x) net.arcs →
    IsReach (network_of (digraph_of net) caps net.source net.sink) flow side → IsReach (network_at net x) flow side
reach_here net x caps flow side e h = rw e at h

pub point_here : (net : Network) (x : Fraction) (caps flow : List ℤ) (side : List Bool) → IsBuilt net → IsInInterval net x →
    caps ≡ map (capacity_at x) net.arcs →
    IsGreatest (network_of (digraph_of net) caps net.source net.sink) flow →
    IsReach (network_of (digraph_of net) caps net.source net.sink) flow side → IsPoint net x side flow
point_here net x caps flow side b inside e best reach =
    point_of_greatest net x side flow b.monotone inside (greatest_here net x caps flow e best) (reach_here net x caps flow side e reach)

-- the same, as the code calls it
pub point_found : (net : Network) (x : Fraction) (frame : Digraph) (s : ℕ) (caps flow : List ℤ) (side : List Bool) → IsBuilt net → IsInInterval net x →
    frame ≡ digraph_of net → s ≡ net.source → caps ≡ map (capacity_at x) net.arcs →
    IsGreatest (network_of (digraph_of net) caps net.source net.sink) flow → ((sink : ℕ) → IsReach (network_of frame caps s sink) flow side) → IsPoint net x side flow
point_found net x frame s caps flow side b inside is_frame is_s is_caps best reach =
    point_here net x caps flow side b inside is_caps best (rw (is_frame, is_s) at (reach net.sink))

-- a greatest flow is within the capacities, whichever nodes are the source and the sink
pub within_found : (net : Network) (frame : Digraph) (s : ℕ) (caps flow : List ℤ) → frame ≡ digraph_of net →
    IsGreatest (network_of (digraph_of net) caps net.source net.sink) flow → IsWithin (network_of frame caps s s) flow
within_found net frame s caps flow is_frame best =
    let within = best.flow_is.within in
    rw is_frame (record { full = within.full; low = within.low; high = within.high })

within_size : (x c : ℤ) → pos 0 ≤ℤ x → x ≤ℤ c → c <ℤ pos (2 ^ 104) → IsWithinSize (2 ^ 104) x
within_size x c h k l = record { low = omega (arith, ints, h); high = omega (arith, ints, k, l) }

flow_shape : (net : Network) (x : Fraction) (flow : List ℤ) → IsBounded (digraph_of net) (map (capacity_at x) net.arcs) →
    IsWithin (network_at net x) flow → IsFlowShape net flow
flow_shape net x flow b within =
    let full : length flow ≡ length net.arcs = within.full ∙ length-map net.arcs ends_of in
    record {
      full = full;
      each = λ i d here.
          let low : i < length (map ends_of net.arcs) = omega (arith, here, within.full) in
          let same : get_or flow i d ≡ at_arc flow i = get_or_default flow i d (pos 0) here in
          rw same (within_size (at_arc flow i) (at_arc (map (capacity_at x) net.arcs) i) (within.low i low) (within.high i low) (b.high i low));
    }

-- the shape of a greatest flow, as the code calls it
pub flow_found : (net : Network) (x : Fraction) (frame : Digraph) (s t : ℕ) (caps flow : List ℤ) → frame ≡ digraph_of net → s ≡ net.source → t ≡ net.sink →
    caps ≡ map (capacity_at x) net.arcs → IsBounded (digraph_of net) caps → IsGreatest (network_of frame caps s t) flow → IsFlowShape net flow
flow_found net x frame s t caps flow is_frame is_s is_t e bounded best =
    flow_shape net x flow (rw e at bounded) (greatest_here net x caps flow e (rw (is_frame, is_s, is_t) at best)).flow_is.within

fraction_shape : (x : Fraction) → IsBoundedFraction x → IsLowest x → IsFractionShape x
fraction_shape x b l = record { bounds = b; lowest = l }

-- the shape of what was found
pub shape_found : (net : Network) (x : Fraction) (caps flow : List ℤ) (side : List Bool) → IsPoint net x side flow → IsBoundedFraction x → IsLowest x →
    caps ≡ map (capacity_at x) net.arcs → IsBounded (digraph_of net) caps → IsPointShape net (record { at = x; side = side; flow = flow })
shape_found net x caps flow side p b l e bounded =
    let cut = p.smallest.least.cut in
    record {
      at = fraction_shape x b l;
      side = record { full = cut.full; with_source = cut.with_source; without_sink = cut.without_sink };
      flow = flow_shape net x flow (rw e at bounded) p.flow_is.within;
    }

pub not_outside : (net : Network) (x : Fraction) → IsInInterval net x → IsBelow x net.low ⊎ IsBelow net.high x → ⊥
not_outside net x inside out =
    let low = inside.low in
    let high = inside.high in
    elim out [ inl below ↦ omega (arith, ints, low, below) | inr above ↦ omega (arith, ints, high, above) ]
