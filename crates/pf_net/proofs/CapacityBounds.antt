-- The capacity of an arc within its limits.
use Rattle.std.proofs.Common.{◌≤◌, ◌<◌, ◌^◌, length, get_or, map, arith, sym, ◌∙◌}
use Rattle.std.specs.Prelude.{pos, ◌*ℤ◌, nat_abs}
use Rattle.std.proofs.lemmas.Int.{ints}
use Rattle.pf_model.specs.declared.AffineArc.{AffineArc}
use Rattle.pf_model.specs.Fraction.{Fraction, IsBoundedFraction}
use Rattle.pf_rat.proofs.Products.{product_abs}
use Rattle.std.proofs.lemmas.List.{length-map, get_or-map}
use Rattle.pf_model.specs.Network.{Network, IsInInterval, capacity_at, ends_of}
use Rattle.pf_model.proofs.Affine.{no_arc, proper_at}
use Rattle.pf_frame.specs.Numbers.{IsBounded}
use Rattle.pf_net.specs.Limits.{IsSmallArc, IsBuilt, digraph_of}

pub record IsShort (arc : AffineArc) (x : Fraction) : Type 0 where
  pub constant : nat_abs (arc.a *ℤ x.q) ≤ 2 ^ 102
  pub slope : nat_abs (arc.b *ℤ x.p) ≤ 2 ^ 103

pub short : (arc : AffineArc) (x : Fraction) → IsSmallArc arc → IsBoundedFraction x → IsShort arc x
short arc x s f = record {
  constant = product_abs arc.a x.q (2 ^ 56) (2 ^ 46) (omega (arith, ints, s.a_low, s.a_high)) (omega (arith, ints, f.parameter, f.q_high));
  slope = product_abs arc.b x.p (2 ^ 30) (2 ^ 73) (omega (arith, ints, s.b_low, s.b_high)) (omega (arith, ints, f.p_low, f.p_high));
}

-- the capacities of a network at a parameter of its interval
pub bounded_capacities : (net : Network) (x : Fraction) → IsBuilt net → IsInInterval net x → IsBoundedFraction x →
    IsBounded (digraph_of net) (map (capacity_at x) net.arcs)
bounded_capacities net x built inside bounds = record {
  full = length-map net.arcs (capacity_at x) ∙ sym (length-map net.arcs ends_of);
  low = (proper_at net x built.monotone inside).low;
  high = λ i low.
      let here : i < length net.arcs = omega (arith, low, length-map net.arcs ends_of) in
      let b = short (get_or net.arcs i no_arc) x (built.limits.each i no_arc here) bounds in
      rw (get_or-map (capacity_at x) net.arcs i no_arc (pos 0) here) (omega (arith, ints, b.constant, b.slope));
}
