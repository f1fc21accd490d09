-- One arc gets its new capacity, and what it carries there.
use Rattle.std.proofs.Common.{◌≡◌, ℕ, ◌<◌, ◌^◌, List, length, get_or, Bool, refl, arith, ap, sym, ◌∙◌}
use Rattle.std.specs.Prelude.{ℤ, ◌≤ℤ◌, ◌<ℤ◌, pos}
use Rattle.std.proofs.lemmas.Int.{ints}
use Rattle.std.proofs.lemmas.List.{length-map}
use Rattle.pf_model.specs.declared.AffineArc.{AffineArc}
use Rattle.pf_model.specs.Cut.{at_arc}
use Rattle.pf_model.specs.Digraph.{Digraph}
use Rattle.pf_model.specs.Network.{Network, capacity_at, ends_of}
use Rattle.pf_model.proofs.Affine.{no_arc}
use Rattle.pf_frame.specs.Numbers.{IsBounded}
use Rattle.pf_net.specs.Limits.{digraph_of}
use Rattle.pf_sweep.specs.Parameters.{of_units}
use Rattle.pf_sweep.specs.Moving.{caps_of, is_filled, fitted}
use Rattle.pf_sweep.proofs.Stepping.{cap_here, fitted_low, fitted_high}

pub arc_there : (net : Network) (frame : Digraph) (i : ℕ) → frame ≡ digraph_of net → i < length net.arcs → i < length frame.ends
arc_there net frame i e low =
    let full = ap (λ (g : Digraph). length g.ends) e in
    omega (arith, low, full, length-map net.arcs ends_of)

-- the capacity of arc i at p/unit, within the bounds
pub record IsCap (net : Network) (unit p : ℤ) (i : ℕ) (cap : ℤ) : Type 0 where
  pub is : cap ≡ at_arc (caps_of net unit p) i
  pub low : pos 0 ≤ℤ cap
  pub high : cap <ℤ pos (2 ^ 104)

pub cap_found : (net : Network) (unit p : ℤ) (i : ℕ) (cap : ℤ) (arc : AffineArc) → IsBounded (digraph_of net) (caps_of net unit p) → i < length net.arcs → arc ≡ get_or net.arcs i no_arc →
    cap ≡ capacity_at (of_units unit p) arc → IsCap net unit p i cap
cap_found net unit p i cap arc b low e f =
    let is : cap ≡ at_arc (caps_of net unit p) i = f ∙ ap (λ a. capacity_at (of_units unit p) a) e ∙ sym (cap_here net unit p i low) in
    let there = arc_there net (digraph_of net) i refl low in
    let least = b.low i there in
    let most = b.high i there in
    record { is = is; low = omega (arith, ints, is, least); high = omega (arith, ints, is, most) }

pub fitted_is : (g frame : Digraph) (labels : List ℕ) (s s' i : ℕ) (filled : Bool) (cap wanted x y : ℤ) → frame ≡ g → s' ≡ s → filled ≡ is_filled frame labels s' i → cap ≡ wanted →
    y ≡ fitted filled cap x → y ≡ fitted (is_filled g labels s i) wanted x
fitted_is g frame labels s s' i filled cap wanted x y e f h k l =
    let told : filled ≡ is_filled g labels s i = h ∙ ap (λ z. is_filled z labels s' i) e ∙ ap (λ z. is_filled g labels z i) f in
    l ∙ ap (λ z. fitted z cap x) told ∙ ap (λ z. fitted (is_filled g labels s i) z x) k

pub fitted_bounds : (filled : Bool) (cap x y : ℤ) → y ≡ fitted filled cap x → pos 0 ≤ℤ cap → cap <ℤ pos (2 ^ 104) → pos 0 ≤ℤ x → (pos 0 ≤ℤ y) × (y <ℤ pos (2 ^ 104))
fitted_bounds filled cap x y e low high some =
    let least = fitted_low filled cap x low some in
    let most = fitted_high filled cap x in
    (omega (arith, ints, e, least), omega (arith, ints, e, most, high))

pub arc_counted : (net : Network) (frame : Digraph) (count : ℕ) → frame ≡ digraph_of net → count ≡ length frame.ends → count ≡ length net.arcs
arc_counted net frame count e f =
    let full = ap (λ (g : Digraph). length g.ends) e in
    omega (arith, f, full, length-map net.arcs ends_of)
