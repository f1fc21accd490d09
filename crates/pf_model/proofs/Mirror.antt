-- The mirror of a network has the same capacities at the negated parameter.
use Rattle.std.proofs.Common.{◌≡◌, ℕ, ◌<◌, List, [], ◌∷◌, length, get_or, refl, Bool, true, false, cond, not, ◌&&◌, arith, ap, sym, ◌∙◌, subst}
use Rattle.std.specs.Prelude.{ℤ, ◌+ℤ◌, ◌*ℤ◌, pos, neg_ℤ, int_le, if◌then◌else◌, map, ◌==◌}
use Rattle.std.proofs.lemmas.Int.{ints}
use Rattle.std.proofs.lemmas.List.{length-map, get_or-map}
use Rattle.pf_model.specs.declared.AffineArc.{AffineArc}
use Rattle.pf_model.specs.declared.Sense.{Sense}
use Rattle.pf_model.specs.declared.Sense.TheVariants.{Rising, Falling}
use Rattle.pf_model.specs.Fraction.{Fraction, IsBelow, IsAtMost, IsEqual}
use Rattle.pf_model.specs.Cut.{FlowNetwork, IsSmallestLeast, sum_where, leaves, capacity}
use Rattle.pf_model.specs.Flow.{IsFlow, value}
use Rattle.pf_model.specs.Network.{Network, IsNetworkCut, IsMonotone, IsMonotoneArc, IsInInterval, keeps_slope, fits_source, fits_sink, network_at, capacity_at, ends_of, cut_a, cut_b}
use Rattle.pf_model.specs.Curve.{IsPoint}
use Rattle.pf_model.specs.Mirror.{negative, other_sense, mirror_arc, mirror}
use Rattle.pf_model.proofs.Integers.{add_mul, mul_comm}
use Rattle.pf_model.proofs.Affine.{no_arc}

-- negated numbers
pub neg_mul : (a b : ℤ) → neg_ℤ a *ℤ b ≡ neg_ℤ (a *ℤ b)
neg_mul a b =
    let none : a +ℤ neg_ℤ a ≡ pos 0 = omega (arith, ints) in
    let e = sym (add_mul a (neg_ℤ a) b) ∙ ap (λ n. n *ℤ b) none in
    let zero' : pos 0 *ℤ b ≡ pos 0 = omega (arith, ints) in
    omega (arith, ints, e, zero')

neg_both : (a b : ℤ) → neg_ℤ a *ℤ neg_ℤ b ≡ a *ℤ b
neg_both a b =
    let e = neg_mul a (neg_ℤ b) in
    let f = mul_comm a (neg_ℤ b) ∙ neg_mul b a in
    omega (arith, ints, e, f, mul_comm a b)

pub neg_twice : (a : ℤ) → neg_ℤ (neg_ℤ a) ≡ a
neg_twice a = omega (arith, ints)

pub negated_twice : (x : Fraction) → negative (negative x) ≡ x
negated_twice x = let f : ℤ → Fraction = λ n. record { p = n; q = x.q } in ap f (neg_twice x.p)

-- the order is turned round
pub below_turned : (x y : Fraction) → IsBelow x y → IsBelow (negative y) (negative x)
below_turned x y h = omega (arith, ints, h, neg_mul x.p y.q, neg_mul y.p x.q)

pub at_most_turned : (x y : Fraction) → IsAtMost x y → IsAtMost (negative y) (negative x)
at_most_turned x y h = omega (arith, ints, h, neg_mul x.p y.q, neg_mul y.p x.q)

pub equal_turned : (x y : Fraction) → IsEqual x y → IsEqual (negative x) (negative y)
equal_turned x y h = neg_mul x.p y.q ∙ ap neg_ℤ h ∙ sym (neg_mul y.p x.q)

-- an arc's capacity at the negated parameter
pub capacity_turned : (x : Fraction) (arc : AffineArc) → capacity_at (negative x) (mirror_arc arc) ≡ capacity_at x arc
capacity_turned x arc = ap (λ n. (arc.a *ℤ x.q) +ℤ n) (neg_both arc.b x.p)

ends_turned : (arcs : List AffineArc) → map ends_of (map mirror_arc arcs) ≡ map ends_of arcs
ends_turned [] = refl
ends_turned (arc ∷ arcs) = ap (λ l. ends_of arc ∷ l) (ends_turned arcs)

capacities_turned : (x : Fraction) (arcs : List AffineArc) → map (capacity_at (negative x)) (map mirror_arc arcs) ≡ map (capacity_at x) arcs
capacities_turned x [] = refl
capacities_turned x (arc ∷ arcs) = rw (capacity_turned x arc, capacities_turned x arcs) refl

pub network_turned : (net : Network) (x : Fraction) → network_at (mirror net) (negative x) ≡ network_at net x
network_turned net x =
    let f : List (ℕ × ℕ) → FlowNetwork = λ ends. record {
      nodes = net.nodes;
      source = net.source;
      sink = net.sink;
      ends = ends;
      capacities = map (capacity_at (negative x)) (map mirror_arc net.arcs);
    } in
    let h : List ℤ → FlowNetwork = λ capacities. record {
      nodes = net.nodes;
      source = net.source;
      sink = net.sink;
      ends = map ends_of net.arcs;
      capacities = capacities;
    } in
    ap f (ends_turned net.arcs) ∙ ap h (capacities_turned x net.arcs)

-- what holds of the network at x holds of its mirror at minus x
pub at_mirror : (P : FlowNetwork → Type 0) (net : Network) (x y : Fraction) → y ≡ negative x → P (network_at net x) → P (network_at (mirror net) y)
at_mirror P net x y e h =
    subst P (sym (network_turned net x) ∙ ap (λ z. network_at (mirror net) z) (sym e)) h

-- lines
pub constant_turned : (net : Network) (side : List Bool) → cut_a (mirror net) side ≡ cut_a net side
constant_turned net side = constants side net.arcs
  where
    constants : (side : List Bool) (arcs : List AffineArc) →
        sum_where (leaves side) (map ends_of (map mirror_arc arcs)) (map (λ arc. arc.a) (map mirror_arc arcs))
        ≡ sum_where (leaves side) (map ends_of arcs) (map (λ arc. arc.a) arcs)
    constants side [] = refl
    constants side (arc ∷ arcs) = ap (λ n. cond (leaves side (ends_of arc)) arc.a (pos 0) +ℤ n) (constants side arcs)

slope_step : (here : Bool) (b x y : ℤ) → x ≡ neg_ℤ y → cond here (neg_ℤ b) (pos 0) +ℤ x ≡ neg_ℤ (cond here b (pos 0) +ℤ y)
slope_step true b x y h = omega (arith, ints, h)
slope_step false b x y h = omega (arith, ints, h)

slopes : (side : List Bool) (arcs : List AffineArc) →
    sum_where (leaves side) (map ends_of (map mirror_arc arcs)) (map (λ arc. arc.b) (map mirror_arc arcs))
    ≡ neg_ℤ (sum_where (leaves side) (map ends_of arcs) (map (λ arc. arc.b) arcs))
slopes side [] = refl
slopes side (arc ∷ arcs) = slope_step (leaves side (ends_of arc)) arc.b _ _ (slopes side arcs)

pub slope_turned : (net : Network) (side : List Bool) → cut_b (mirror net) side ≡ neg_ℤ (cut_b net side)
slope_turned net side = slopes side net.arcs

-- the slope rule
le_neg : (b : ℤ) → int_le (neg_ℤ b) (pos 0) ≡ int_le (pos 0) b
le_neg b = grind (arith, ints)

ge_neg : (b : ℤ) → int_le (pos 0) (neg_ℤ b) ≡ int_le b (pos 0)
ge_neg b = grind (arith, ints)

and_turned : (x y : Bool) → (x && y) ≡ true → (y && x) ≡ true
and_turned true true h = refl
and_turned true false h = h
and_turned false y h = cc

source_turned : (sense : Sense) (b : ℤ) → fits_source sense b ≡ true → fits_source (other_sense sense) (neg_ℤ b) ≡ true
source_turned Rising b h = le_neg b ∙ h
source_turned Falling b h = ge_neg b ∙ h

sink_turned : (sense : Sense) (b : ℤ) → fits_sink sense b ≡ true → fits_sink (other_sense sense) (neg_ℤ b) ≡ true
sink_turned Rising b h = ge_neg b ∙ h
sink_turned Falling b h = le_neg b ∙ h

rule_turned : (sense : Sense) (out into : Bool) (b : ℤ) →
    (if out then fits_source sense b else (if into then fits_sink sense b else int_le b (pos 0) && int_le (pos 0) b)) ≡ true →
    (if out then fits_source (other_sense sense) (neg_ℤ b)
    else (if into then fits_sink (other_sense sense) (neg_ℤ b) else int_le (neg_ℤ b) (pos 0) && int_le (pos 0) (neg_ℤ b))) ≡ true
rule_turned sense true into b h = source_turned sense b h
rule_turned sense false true b h = sink_turned sense b h
rule_turned sense false false b h = rw (le_neg b, ge_neg b) (and_turned (int_le b (pos 0)) (int_le (pos 0) b) h)

pub keeps_turned : (sense : Sense) (s t : ℕ) (arc : AffineArc) → keeps_slope sense s t arc ≡ true →
    keeps_slope (other_sense sense) s t (mirror_arc arc) ≡ true
keeps_turned sense s t arc h =
    rule_turned sense ((arc.tail == s) && not (arc.head == s) && not (arc.head == t)) ((arc.head == t) && not (arc.tail == t) && not (arc.tail == s)) arc.b h

-- the mirror of a monotone network is monotone
arc_turned : (net : Network) (arc : AffineArc) → IsMonotoneArc net arc → IsMonotoneArc (mirror net) (mirror_arc arc)
arc_turned net arc m = record {
  tail = m.tail;
  head = m.head;
  slope = keeps_turned net.sense net.source net.sink arc m.slope;
  low = rw (capacity_turned net.high arc) m.high;
  high = rw (capacity_turned net.low arc) m.low;
}

pub monotone_turned : (net : Network) → IsMonotone net → IsMonotone (mirror net)
monotone_turned net m = record {
  source = m.source;
  sink = m.sink;
  apart = m.apart;
  low = m.high;
  high = m.low;
  interval = below_turned net.low net.high m.interval;
  each = λ i d low.
      let here : i < length net.arcs = omega (arith, low, length-map net.arcs mirror_arc) in
      let e = get_or-map mirror_arc net.arcs i no_arc d here in
      subst (IsMonotoneArc (mirror net)) (sym e) (arc_turned net (get_or net.arcs i no_arc) (m.each i no_arc here));
}

pub interval_turned : (net : Network) (x : Fraction) → IsInInterval net x → IsInInterval (mirror net) (negative x)
interval_turned net x h = record {
  parameter = h.parameter;
  low = at_most_turned x net.high h.high;
  high = at_most_turned net.low x h.low;
}

pub cut_turned : (net : Network) (side : List Bool) → IsNetworkCut net side → IsNetworkCut (mirror net) side
cut_turned net side c = record { full = c.full; with_source = c.with_source; without_sink = c.without_sink }

-- twice the mirror is the network
sense_twice : (sense : Sense) → other_sense (other_sense sense) ≡ sense
sense_twice Rising = refl
sense_twice Falling = refl

arc_twice : (arc : AffineArc) → mirror_arc (mirror_arc arc) ≡ arc
arc_twice arc =
    let f : ℤ → AffineArc = λ n. record { tail = arc.tail; head = arc.head; a = arc.a; b = n } in
    ap f (neg_twice arc.b)

arcs_twice : (arcs : List AffineArc) → map mirror_arc (map mirror_arc arcs) ≡ arcs
arcs_twice [] = refl
arcs_twice (arc ∷ arcs) = rw (arc_twice arc, arcs_twice arcs) refl

pub mirror_twice : (net : Network) → mirror (mirror net) ≡ net
mirror_twice net =
    let build : Sense → Fraction → Fraction → List AffineArc → Network = λ sense low high arcs. record {
      nodes = net.nodes;
      source = net.source;
      sink = net.sink;
      sense = sense;
      low = low;
      high = high;
      arcs = arcs;
    } in
    let twice = mirror (mirror net) in
    ap (λ sense. build sense twice.low twice.high twice.arcs) (sense_twice net.sense)
    ∙ ap (λ low. build net.sense low twice.high twice.arcs) (negated_twice net.low)
    ∙ ap (λ high. build net.sense net.low high twice.arcs) (negated_twice net.high)
    ∙ ap (λ arcs. build net.sense net.low net.high arcs) (arcs_twice net.arcs)

pub point_turned : (net : Network) (x : Fraction) (side : List Bool) (flow : List ℤ) → IsPoint net x side flow → IsPoint (mirror net) (negative x) side flow
point_turned net x side flow p = record {
  parameter = p.parameter;
  smallest = at_mirror (λ g. IsSmallestLeast g side) net x (negative x) refl p.smallest;
  flow_is = at_mirror (λ g. IsFlow g flow) net x (negative x) refl p.flow_is;
  value_is = at_mirror (λ g. value g flow ≡ capacity g side) net x (negative x) refl p.value_is;
}
