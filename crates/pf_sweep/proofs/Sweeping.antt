-- A sweep is made, and goes on to a greater parameter.
use Rattle.std.proofs.Common.{◌≡◌, ℕ, ◌+◌, ◌≤◌, List, length, get_or, map, refl, arith, ap, sym, ◌∙◌, subst}
use Rattle.std.specs.Prelude.{ℤ, ◌≤ℤ◌, pos}
use Rattle.std.proofs.lemmas.Int.{ints}
use Rattle.std.proofs.lemmas.List.{length-map}
use Rattle.pf_model.specs.Fraction.{IsAtMost, IsEqual, IsBoundedFraction}
use Rattle.pf_model.specs.Cut.{IsLeastValue}
use Rattle.pf_model.specs.Flow.{IsGreatest, flow_value}
use Rattle.pf_model.specs.Residual.{HasValidLabels}
use Rattle.pf_model.specs.Digraph.{Digraph}
use Rattle.pf_model.specs.Network.{Network, IsInInterval, network_at, ends_of}
use Rattle.pf_model.proofs.Certificate.{at_most_trans}
use Rattle.pf_model.proofs.Integers.{mul_comm, mul_most}
use Rattle.pf_frame.specs.declared.scratch.Scratch.{Scratch}
use Rattle.pf_frame.specs.Scratch.{Serves, KeepsPlaces}
use Rattle.pf_frame.specs.Numbers.{IsSized}
use Rattle.pf_net.specs.Limits.{IsBuilt, digraph_of}
use Rattle.pf_preflow.specs.Engine.{Engined, AreLow}
use Rattle.pf_preflow.specs.Labels.{changed, rises}
use Rattle.pf_sweep.specs.declared.parameter.Parameter.{Parameter}
use Rattle.pf_sweep.specs.declared.sweep.KeptCut.{KeptCut}
use Rattle.pf_sweep.specs.Parameters.{of_units, fraction_of, most_unit, HasNearEnds}
use Rattle.pf_sweep.specs.Swept.{Swept, IsMade, IsAdvanced, IsEngineOf, IsKept, IsSweep, parameter_of, network_of_sweep}
use Rattle.pf_sweep.specs.Moving.{caps_of, IsBefore}
use Rattle.pf_sweep.proofs.Units.{bounds_inside}
use Rattle.pf_sweep.proofs.Keeping.{least_value, flow_sized}

abbrev pub swept_of : Network → ℤ → ℤ → List ℤ → List ℕ → Swept
swept_of net unit at flow labels = record { net = net; unit = unit; at = at; flow = flow; labels = labels }

-- ---- it is made

pub sweep_of : (net : Network) (unit at : ℤ) (engine : Engined) (scratch : Scratch) (caps flow : List ℤ) (cut : KeptCut) → IsBuilt net → pos 1 ≤ℤ unit → unit ≤ℤ pos most_unit →
    HasNearEnds net → IsInInterval net (of_units unit at) → IsEngineOf net engine → caps ≡ caps_of net unit at → IsGreatest (network_at net (of_units unit at)) flow →
    HasValidLabels (network_at net (of_units unit at)) flow engine.labels → AreLow net.nodes engine.labels → Serves scratch net.nodes (length net.arcs) → IsKept net (of_units unit at) cut →
    IsSweep (swept_of net unit at flow engine.labels) engine scratch caps cut
sweep_of net unit at engine scratch caps flow cut b low high ends inside e caps_are best valid small serves kept = record {
  built = b;
  unit_low = low;
  unit_high = high;
  ends = ends;
  settled = record { inside = inside; greatest = best; valid = valid; low = small };
  labels_are = refl;
  engine_is = e;
  scratch_serves = serves;
  caps_are = caps_are;
  kept = kept;
}

pub made_of : (net : Network) (unit : ℤ) (at : Parameter) (flow : List ℤ) (labels : List ℕ) → at.unit ≡ unit → IsEqual (fraction_of at) net.low → IsInInterval net (fraction_of at) →
    IsGreatest (network_at net (fraction_of at)) flow → HasValidLabels (network_at net (fraction_of at)) flow labels → AreLow net.nodes labels → IsMade net unit (swept_of net at.unit at.p flow labels)
made_of net unit at flow labels same e inside best valid small = record {
  net_is = refl;
  unit_is = same;
  low_end = e;
  settled = record { inside = inside; greatest = best; valid = valid; low = small };
}

pub serves_still : (before after : Scratch) (n m : ℕ) → KeepsPlaces before after → Serves before n m → Serves after n m
serves_still before after n m k s =
    let a = k.marks in
    let b = k.sums in
    let c = k.queue in
    let d = s.marks in
    let e = s.sums in
    let f = s.queue in
    record { marks = omega (arith, a, d); sums = omega (arith, b, e); queue = omega (arith, c, f) }

-- ---- it goes on

pub bounds_of : (s : Swept) (engine : Engined) (scratch : Scratch) (caps : List ℤ) (cut : KeptCut) (p : ℤ) → IsSweep s engine scratch caps cut →
    IsInInterval s.net (of_units s.unit p) → IsBoundedFraction (of_units s.unit p)
bounds_of s engine scratch caps cut p w inside = bounds_inside s.net s.unit p w.built w.ends w.unit_low w.unit_high inside

-- a step to p/unit can be made
pub record IsDue (s : Swept) (p : ℤ) : Type 0 where
  pub inside : IsInInterval s.net (of_units s.unit p)
  pub later : s.at ≤ℤ p
  pub bounds : IsBoundedFraction (of_units s.unit p)

pub due_of : (s seen : Swept) (engine : Engined) (scratch : Scratch) (caps : List ℤ) (cut : KeptCut) (p : ℤ) → IsSweep s engine scratch caps cut → s ≡ seen →
    IsInInterval seen.net (of_units seen.unit p) → seen.at ≤ℤ p → IsDue s p
due_of s seen engine scratch caps cut p w same inside later =
    let P : Swept → Type 0 = λ z. IsInInterval z.net (of_units z.unit p) in
    let Q : Swept → Type 0 = λ z. z.at ≤ℤ p in
    let here : IsInInterval s.net (of_units s.unit p) = subst P (sym same) inside in
    record { inside = here; later = subst Q (sym same) later; bounds = bounds_of s engine scratch caps cut p w here }

pub before_of : (s : Swept) (engine : Engined) (scratch : Scratch) (caps : List ℤ) (cut : KeptCut) (p : ℤ) → IsSweep s engine scratch caps cut →
    s.at ≤ℤ p → IsBefore s.net s.unit p caps s.flow engine.labels
before_of s engine scratch caps cut p w later =
    let P : List ℕ → Type 0 = λ labels. HasValidLabels (network_of_sweep s) s.flow labels in
    record {
      rising = w.kept.rising;
      from = s.at;
      inside = w.settled.inside;
      bounds = bounds_of s engine scratch caps cut s.at w w.settled.inside;
      later = later;
      caps_are = w.caps_are;
      flow_is = w.settled.greatest.flow_is;
      valid = subst P w.labels_are w.settled.valid;
    }

pub later_units : (unit at p : ℤ) → pos 1 ≤ℤ unit → at ≤ℤ p → IsAtMost (of_units unit at) (of_units unit p)
later_units unit at p h l =
    let e = mul_most unit at p (omega (arith, ints, h)) l in
    let f = mul_comm unit at in
    let g = mul_comm unit p in
    omega (arith, ints, e, f, g)

pub kept_later : (net : Network) (unit at p : ℤ) (cut : KeptCut) → pos 1 ≤ℤ unit → at ≤ℤ p → IsKept net (of_units unit at) cut →
    IsKept net (of_units unit p) cut
kept_later net unit at p cut h l k = record {
  rising = k.rising;
  from = k.from;
  inside = k.inside;
  before = at_most_trans k.from (of_units unit at) (of_units unit p) k.inside.parameter h h k.before (later_units unit at p h l);
  smallest = k.smallest;
  line_is = k.line_is;
  size_is = k.size_is;
}

pub goes_on : (s : Swept) (p : ℤ) (engine engine' : Engined) (scratch : Scratch) (caps caps' flow' : List ℤ) (cut : KeptCut) → IsSweep s engine scratch caps cut →
    s.at ≤ℤ p → IsInInterval s.net (of_units s.unit p) → IsEngineOf s.net engine' → caps' ≡ caps_of s.net s.unit p → IsGreatest (network_at s.net (of_units s.unit p)) flow' →
    HasValidLabels (network_at s.net (of_units s.unit p)) flow' engine'.labels → AreLow s.net.nodes engine'.labels →
    IsSweep (swept_of s.net s.unit p flow' engine'.labels) engine' scratch caps' cut
goes_on s p engine engine' scratch caps caps' flow' cut w later inside e caps_are best valid small =
    sweep_of s.net s.unit p engine' scratch caps' flow' cut w.built w.unit_low w.unit_high w.ends inside e caps_are best valid small w.scratch_serves
    (kept_later s.net s.unit s.at p cut w.unit_low later w.kept)

pub advanced_of : (s seen : Swept) (p : ℤ) (engine engine' : Engined) (flow' : List ℤ) (steps steps' : ℕ) → s ≡ seen → s.labels ≡ engine.labels → IsInInterval s.net (of_units s.unit p) →
    IsGreatest (network_at s.net (of_units s.unit p)) flow' → HasValidLabels (network_at s.net (of_units s.unit p)) flow' engine'.labels → AreLow s.net.nodes engine'.labels →
    ((v : ℕ) → get_or engine.labels v 0 ≤ get_or engine'.labels v 0) → changed engine.labels engine'.labels + steps ≤ steps' → steps' ≤ steps + rises engine.labels engine'.labels →
    IsAdvanced seen (swept_of s.net s.unit p flow' engine'.labels) p steps steps'
advanced_of s seen p engine engine' flow' steps steps' same e inside best valid small none_fell least most =
    let P : Swept → Type 0 = λ z. IsAdvanced z (swept_of s.net s.unit p flow' engine'.labels) p steps steps' in
    subst P same (record {
      net_is = refl;
      unit_is = refl;
      at_is = refl;
      raised = record { none_fell = rw e none_fell; at_least = rw e least; at_most = rw e most };
      settled = record { inside = inside; greatest = best; valid = valid; low = small };
    })

-- ---- what it tells

pub value_of : (s : Swept) (engine : Engined) (scratch : Scratch) (caps : List ℤ) (cut : KeptCut) (sum : ℤ) → IsSweep s engine scratch caps cut →
    sum ≡ flow_value (network_of_sweep s).ends s.flow s.net.source → IsLeastValue (network_of_sweep s) sum
value_of s engine scratch caps cut sum w e = least_value s.net s.unit s.at s.flow sum w.built w.settled.inside w.settled.greatest e

pub sized_of : (s : Swept) (engine : Engined) (scratch : Scratch) (caps : List ℤ) (cut : KeptCut) (frame : Digraph) → IsSweep s engine scratch caps cut →
    frame ≡ digraph_of s.net → IsSized frame s.flow
sized_of s engine scratch caps cut frame w e =
    flow_sized s.net s.unit s.at frame s.flow e w.built w.settled.inside (bounds_of s engine scratch caps cut s.at w w.settled.inside) w.settled.greatest

-- another cut is kept, and the scratch has as many places
pub kept_anew : (s : Swept) (engine : Engined) (scratch scratch' : Scratch) (caps : List ℤ) (cut cut' : KeptCut) → IsSweep s engine scratch caps cut →
    KeepsPlaces scratch scratch' → IsKept s.net (parameter_of s) cut' → IsSweep s engine scratch' caps cut'
kept_anew s engine scratch scratch' caps cut cut' w k kept = record {
  built = w.built;
  unit_low = w.unit_low;
  unit_high = w.unit_high;
  ends = w.ends;
  settled = w.settled;
  labels_are = w.labels_are;
  engine_is = w.engine_is;
  scratch_serves = serves_still scratch scratch' s.net.nodes (length s.net.arcs) k w.scratch_serves;
  caps_are = w.caps_are;
  kept = kept;
}

pub value_seen : (net : Network) (frame : Digraph) (s : ℕ) (flow flow' : List ℤ) (sum : ℤ) → sum ≡ flow_value frame.ends flow' s → frame ≡ digraph_of net → flow' ≡ flow → s ≡ net.source →
    sum ≡ flow_value (map ends_of net.arcs) flow net.source
value_seen net frame s flow flow' sum e f g h =
    e ∙ ap (λ (z : Digraph). flow_value z.ends flow' s) f ∙ ap (λ (l : List ℤ). flow_value (map ends_of net.arcs) l s) g ∙ ap (λ v. flow_value (map ends_of net.arcs) flow v) h

pub serves_of : (net : Network) (frame : Digraph) (room : Scratch) (n m : ℕ) → frame ≡ digraph_of net → n ≡ frame.nodes → m ≡ length frame.ends → Serves room n m → Serves room net.nodes (length net.arcs)
serves_of net frame room n m e f g s =
    let nodes = ap (λ (z : Digraph). z.nodes) e in
    let ends = ap (λ (z : Digraph). length z.ends) e in
    let arcs = length-map net.arcs ends_of in
    let a = s.marks in
    let b = s.sums in
    let d = s.queue in
    record { marks = omega (arith, f, g, nodes, ends, arcs, a); sums = omega (arith, f, nodes, b); queue = omega (arith, f, g, nodes, ends, arcs, d) }
