-- A flow at one parameter of the interval is within the bounds within which it is carried to another.
use Rattle.std.proofs.Common.{◌≡◌, ℕ, ◌<◌, ◌^◌, List, length, get_or, arith, ◌∙◌, to_z, of_z}
use Rattle.std.specs.Prelude.{ℤ, ◌*ℤ◌, ◌≤ℤ◌, neg_ℤ, pos, nat_abs}
use Rattle.std.proofs.lemmas.Int.{ints}
use Rattle.std.proofs.lemmas.List.{length-map, get_or-map}
use Rattle.pf_model.specs.declared.AffineArc.{AffineArc}
use Rattle.pf_model.specs.Fraction.{Fraction, IsParameter, IsBoundedFraction}
use Rattle.pf_model.specs.Limits.{most_end}
use Rattle.pf_model.specs.Flow.{IsFlow, IsPreflow}
use Rattle.pf_model.specs.Digraph.{Digraph, network_of}
use Rattle.pf_model.specs.Network.{Network, IsInInterval, network_at, capacity_at, ends_of}
use Rattle.pf_model.proofs.Affine.{no_arc}
use Rattle.pf_model.proofs.Certificate.{at_most_trans}
use Rattle.pf_rat.proofs.Products.{product_abs, comes_back}
use Rattle.pf_net.specs.Limits.{IsSmallArc, IsNear, IsBuilt, digraph_of}
use Rattle.pf_preflow.specs.Engine.{Engined, network}
use Rattle.pf_carry.specs.Carry.{IsCarriable}
use mir.Syntax.{w128}

-- a parameter between two ends of these sizes has this size
near_inside : (net : Network) (x : Fraction) → IsBuilt net → IsInInterval net x → IsNear x
near_inside net x b inside =
    let low_end : Fraction = record { p = neg_ℤ (pos most_end); q = pos 1 } in
    let high_end : Fraction = record { p = pos most_end; q = pos 1 } in
    let l = b.limits.low.low in
    let h = b.limits.high.high in
    let low = at_most_trans low_end net.low x (omega (arith, ints)) b.monotone.low inside.parameter (omega (arith, ints, l)) inside.low in
    let high = at_most_trans x net.high high_end inside.parameter b.monotone.high (omega (arith, ints)) inside.high (omega (arith, ints, h)) in
    record { low = omega (arith, ints, low); high = omega (arith, ints, high) }

-- the capacity of an arc there, in units of 1/q
capacity_most : (arc : AffineArc) (x : Fraction) → IsSmallArc arc → IsParameter x → IsNear x → capacity_at x arc ≤ℤ (pos (2 ^ 75) *ℤ x.q)
capacity_most arc x s p n =
    let a = product_abs arc.a x.q (2 ^ 56) (nat_abs x.q) (omega (arith, ints, s.a_low, s.a_high)) (omega arith) in
    let b = product_abs arc.b x.p (2 ^ 30) (nat_abs x.p) (omega (arith, ints, s.b_low, s.b_high)) (omega arith) in
    let low = n.low in
    let high = n.high in
    omega (arith, ints, a, b, low, high, p)

flow_carriable : (net : Network) (x : Fraction) (flow : List ℤ) → IsBuilt net → IsInInterval net x → IsFlow (network_at net x) flow →
    IsCarriable (digraph_of net) x.q flow
flow_carriable net x flow b inside flow_is = record {
  full = flow_is.within.full;
  low = flow_is.within.low;
  high = λ i low.
      let here : i < length net.arcs = omega (arith, low, length-map net.arcs ends_of) in
      let e = get_or-map (capacity_at x) net.arcs i no_arc (pos 0) here in
      let m = capacity_most (get_or net.arcs i no_arc) x (b.limits.each i no_arc here) inside.parameter (near_inside net x b inside) in
      let h = flow_is.within.high i low in
      omega (arith, ints, e, m, h);
}

-- the same, as the code calls it
pub carriable : (net : Network) (x : Fraction) (frame : Digraph) (unit : ℤ) (flow : List ℤ) → IsBuilt net → IsInInterval net x → frame ≡ digraph_of net → unit ≡ x.q →
    IsFlow (network_at net x) flow → IsCarriable frame unit flow
carriable net x frame unit flow b inside e f flow_is = rw (e, f) (flow_carriable net x flow b inside flow_is)

-- the denominator comes back from its bits
pub unit_back : (x : Fraction) (unit : ℤ) → unit ≡ x.q → IsBoundedFraction x → to_z w128 (of_z w128 unit) ≡ x.q
unit_back x unit e b = let low = b.parameter in let high = b.q_high in comes_back unit (omega (arith, ints, e, low, high)) ∙ e

-- the preflow of a frame is the engine's
pub preflow_here : (engine : Engined) (frame : Digraph) (s t s' t' : ℕ) (caps flow : List ℤ) → s ≡ s' → t ≡ t' → engine.source ≡ s' → engine.sink ≡ t' →
    IsPreflow (network_of frame caps s t) flow → IsPreflow (network engine frame caps) flow
preflow_here engine frame s t s' t' caps flow e f g h p = rw (g, h) (rw (e, f) at p)
