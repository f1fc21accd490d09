-- From a flow at one parameter to what the engine goes on from at a greater one.
use Rattle.std.proofs.Common.{◌≡◌, ◌≢◌, ℕ, ◌<◌, ◌≤◌, ◌+◌, List, length, set, arith, ap, sym, ◌∙◌, below_more, refl}
use Rattle.std.specs.Prelude.{ℤ, pos}
use Rattle.std.proofs.lemmas.Int.{ints}
use Rattle.std.proofs.lemmas.List.{length-set, length-map, get_or-set_same, get_or-set_other, ext_get_or}
use Rattle.pf_model.specs.Fraction.{IsBoundedFraction}
use Rattle.pf_model.specs.Cut.{at_arc}
use Rattle.pf_model.specs.Flow.{IsWithin, IsPreflow, IsGreatest}
use Rattle.pf_model.specs.Residual.{HasValidLabels}
use Rattle.pf_model.specs.Digraph.{Digraph, network_of}
use Rattle.pf_model.specs.Network.{Network, IsInInterval, network_at, capacity_at}
use Rattle.pf_frame.specs.Numbers.{IsBounded}
use Rattle.pf_net.specs.Limits.{IsBuilt, digraph_of}
use Rattle.pf_net.proofs.CapacityBounds.{bounded_capacities}
use Rattle.pf_preflow.specs.Engine.{Engined, KeepsEnds, network}
use Rattle.pf_sweep.specs.Parameters.{of_units}
use Rattle.pf_sweep.specs.Swept.{IsEngineOf}
use Rattle.pf_sweep.specs.Moving.{caps_of, IsMoving, IsAtEnds, IsBefore}
use Rattle.pf_sweep.proofs.Stepping.{caps_later, stepped_preflow, stepped_valid}
use Rattle.pf_sweep.proofs.Moved.{moved_caps, moved_flow}

pub wanted_bounded : (net : Network) (unit p : ℤ) → IsBuilt net → IsInInterval net (of_units unit p) → IsBoundedFraction (of_units unit p) → IsBounded (digraph_of net) (caps_of net unit p)
wanted_bounded net unit p b inside bounds = bounded_capacities net (of_units unit p) b inside bounds

-- a flow within bounded capacities is bounded
flow_bounded : (g : Digraph) (s t : ℕ) (caps flow : List ℤ) → IsBounded g caps → IsWithin (network_of g caps s t) flow → IsBounded g flow
flow_bounded g s t caps flow b w = record {
  full = w.full;
  low = w.low;
  high = λ i low. let h = w.high i low in let m = b.high i low in omega (arith, ints, h, m);
}

pub before_bounded : (net : Network) (unit p : ℤ) (caps flow : List ℤ) (labels : List ℕ) → IsBuilt net → IsBefore net unit p caps flow labels → IsBounded (digraph_of net) flow
before_bounded net unit p caps flow labels b h =
    flow_bounded (digraph_of net) net.source net.sink (caps_of net unit h.from) flow (wanted_bounded net unit h.from b h.inside h.bounds) h.flow_is.within

pub before_full : (net : Network) (unit p : ℤ) (caps flow : List ℤ) (labels : List ℕ) → IsBefore net unit p caps flow labels → length caps ≡ length net.arcs
before_full net unit p caps flow labels h = ap length h.caps_are ∙ length-map net.arcs (capacity_at (of_units unit h.from))

-- what the engine goes on from
pub record IsOnward (net : Network) (unit p : ℤ) (caps flow : List ℤ) (labels : List ℕ) : Type 0 where
  pub caps_are : caps ≡ caps_of net unit p
  pub preflow : IsPreflow (network_at net (of_units unit p)) flow
  pub valid : HasValidLabels (network_at net (of_units unit p)) flow labels

pub onward : (net : Network) (unit p : ℤ) (caps flow caps' flow' : List ℤ) (labels : List ℕ) → IsBuilt net → IsInInterval net (of_units unit p) → IsBoundedFraction (of_units unit p) →
    IsBefore net unit p caps flow labels →
    IsMoving (digraph_of net) labels net.source (caps_of net unit p) caps flow caps' flow' (IsAtEnds (digraph_of net) net.source net.sink) →
    IsOnward net unit p caps' flow' labels
onward net unit p caps flow caps' flow' labels b inside bounds h m =
    let g : Digraph = digraph_of net in
    let wanted = wanted_bounded net unit p b inside bounds in
    let later = caps_later net unit h.from p b h.rising h.later in
    let m' : IsMoving g labels net.source (caps_of net unit p) (caps_of net unit h.from) flow caps' flow' (IsAtEnds g net.source net.sink) = rw h.caps_are at m in
    let stepped = moved_flow g labels net.source net.sink (caps_of net unit p) (caps_of net unit h.from) flow caps' flow' later h.flow_is.within m' in
    record {
      caps_are = moved_caps g labels net.source net.sink (caps_of net unit p) (caps_of net unit h.from) flow caps' flow' wanted.full later m';
      preflow = stepped_preflow g net.source net.sink (caps_of net unit h.from) (caps_of net unit p) flow flow' labels h.flow_is later wanted.low stepped;
      valid = stepped_valid g net.source net.sink (caps_of net unit h.from) (caps_of net unit p) flow flow' labels h.valid later stepped;
    }

-- ---- the engine's network is the one at the parameter

pub engine_caps : (net : Network) (unit p : ℤ) (frame : Digraph) (caps : List ℤ) → frame ≡ digraph_of net → caps ≡ caps_of net unit p →
    IsBounded (digraph_of net) (caps_of net unit p) → IsBounded frame caps
engine_caps net unit p frame caps e f b = rw (e, f) b

pub engine_preflow : (net : Network) (unit p : ℤ) (frame : Digraph) (engine : Engined) (caps flow : List ℤ) → frame ≡ digraph_of net → engine.source ≡ net.source → engine.sink ≡ net.sink →
    caps ≡ caps_of net unit p → IsPreflow (network_at net (of_units unit p)) flow → IsPreflow (network engine frame caps) flow
engine_preflow net unit p frame engine caps flow e s t f h = rw (e, s, t, f) h

pub engine_valid : (net : Network) (unit p : ℤ) (frame : Digraph) (engine : Engined) (caps flow : List ℤ) (labels : List ℕ) → frame ≡ digraph_of net → engine.source ≡ net.source →
    engine.sink ≡ net.sink → caps ≡ caps_of net unit p → HasValidLabels (network_at net (of_units unit p)) flow labels → HasValidLabels (network engine frame caps) flow labels
engine_valid net unit p frame engine caps flow labels e s t f h = rw (e, s, t, f) h

pub greatest_back : (net : Network) (unit p : ℤ) (frame : Digraph) (engine : Engined) (caps flow : List ℤ) → frame ≡ digraph_of net → engine.source ≡ net.source → engine.sink ≡ net.sink →
    caps ≡ caps_of net unit p → IsGreatest (network engine frame caps) flow → IsGreatest (network_at net (of_units unit p)) flow
greatest_back net unit p frame engine caps flow e s t f h = rw (e, s, t, f) at h

pub valid_back : (net : Network) (unit p : ℤ) (frame : Digraph) (engine : Engined) (caps flow : List ℤ) (labels : List ℕ) → frame ≡ digraph_of net → engine.source ≡ net.source →
    engine.sink ≡ net.sink → caps ≡ caps_of net unit p → HasValidLabels (network engine frame caps) flow labels → HasValidLabels (network_at net (of_units unit p)) flow labels
valid_back net unit p frame engine caps flow labels e s t f h = rw (e, s, t, f) at h

pub engine_stays : (net : Network) (before after : Engined) → KeepsEnds before after → IsEngineOf net before → IsEngineOf net after
engine_stays net before after k e = record {
  fits = record { nodes = e.fits.nodes ∙ sym k.nodes; arcs = e.fits.arcs ∙ sym k.arcs };
  source = k.source ∙ e.source;
  sink = k.sink ∙ e.sink;
}

-- ---- all capacities are written

pub record IsWritten (wanted caps : List ℤ) (i : ℕ) : Type 0 where
  pub full : length caps ≡ length wanted
  pub each : (k : ℕ) → k < i → at_arc caps k ≡ at_arc wanted k

pub written_begins : (wanted caps : List ℤ) → length caps ≡ length wanted → IsWritten wanted caps 0
written_begins wanted caps e = record { full = e; each = λ k low. absurd (omega (arith, low)) }

stays_below : (caps caps' : List ℤ) (i k : ℕ) (y : ℤ) → caps' ≡ set caps i y → k < i → at_arc caps' k ≡ at_arc caps k
stays_below caps caps' i k y e low = let ne : k ≢ i = (λ same. omega (arith, low, same)) in rw (e, get_or-set_other) refl

pub written_more : (wanted caps caps' : List ℤ) (i : ℕ) → IsWritten wanted caps i → i < length wanted → caps' ≡ set caps i (at_arc wanted i) → IsWritten wanted caps' (i + 1)
written_more wanted caps caps' i w low e =
    let full = w.full in
    record {
      full = ap length e ∙ length-set caps i (at_arc wanted i) ∙ w.full;
      each = below_more (λ k. at_arc caps' k ≡ at_arc wanted k) i (λ k less. stays_below caps caps' i k (at_arc wanted i) e less ∙ w.each k less)
          (ap (λ xs. at_arc xs i) e ∙ get_or-set_same caps i (at_arc wanted i) (pos 0) (omega (arith, full, low)));
    }

pub written_ends : (wanted caps : List ℤ) (i : ℕ) → IsWritten wanted caps i → length wanted ≤ i → caps ≡ wanted
written_ends wanted caps i w all = let full = w.full in ext_get_or (pos 0) caps wanted w.full (λ k h. w.each k (omega (arith, h, full, all)))
