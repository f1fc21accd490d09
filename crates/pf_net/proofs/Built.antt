-- Where there is no reason against a network, it is a network within its limits.
use Rattle.std.proofs.Common.{◌≡◌, ◌≢◌, ℕ, suc, ◌<◌, ◌^◌, List, [], ◌∷◌, length, refl, Bool, true, false, not, ◌||◌, arith}
use Rattle.std.specs.Prelude.{ℤ, pos, ◌≤ℤ◌, ◌*ℤ◌, nat_abs, int_lt, nat_lt, nat_le, ◌==◌, if◌then◌else◌, All, Option, Some, None}
use Rattle.std.specs.List.{list_any}
use Rattle.std.proofs.lemmas.Int.{ints}
use Rattle.std.proofs.lemmas.Bool.{or_parts, ltb-false, leb-false, eq-eqb}
use Rattle.std.proofs.lemmas.List.{length-map, get_or-map}
use Rattle.std.proofs.lemmas.List.Elements.{All-nil, All-cons}
use Rattle.pf_model.specs.declared.AffineArc.{AffineArc}
use Rattle.pf_model.specs.Fraction.{Fraction, IsParameter, IsBelow, is_below}
use Rattle.pf_model.specs.Network.{Network, IsMonotone, IsMonotoneArc, capacity_at, keeps_slope, ends_of}
use Rattle.pf_model.specs.Digraph.{IsDigraph}
use Rattle.pf_model.proofs.Affine.{no_arc}
use Rattle.pf_net.specs.declared.net.NetBad.TheVariants.{TooBig, SameEnds, EmptyInterval, BadEnd, NotMonotone, Negative}
use Rattle.pf_net.specs.Limits.{IsSmallArc, IsNear, IsWithinLimits, IsBuilt, digraph_of}
use Rattle.pf_net.specs.Refusal.{is_large, is_far, is_too_big, ends_outside, is_negative, arc_refusal, arcs_refusal, or_else, refusal_of}

-- a chain of tests that refuses nothing
passed : {X : Type 0} (test : Bool) (bad : X) (next : Option X) → (if test then Some bad else next) ≡ None → (test ≡ false) × (next ≡ None)
passed true bad next h = absurd cc
passed false bad next h = (refl, h)

told_not : (test : Bool) → not test ≡ false → test ≡ true
told_not true h = refl
told_not false h = absurd cc

not_below : (x y : ℤ) → int_lt x y ≡ false → y ≤ℤ x
not_below x y h = grind (arith, ints)

pub small_arc : (arc : AffineArc) → is_large arc ≡ false → IsSmallArc arc
small_arc arc h =
    let parts = or_parts (nat_lt (2 ^ 56) (nat_abs arc.a)) (nat_lt (2 ^ 30) (nat_abs arc.b)) h in
    let a = ltb-false (2 ^ 56) (nat_abs arc.a) parts.0 in
    let b = ltb-false (2 ^ 30) (nat_abs arc.b) parts.1 in
    record {
      a_low = omega (arith, ints, a);
      a_high = omega (arith, ints, a);
      b_low = omega (arith, ints, b);
      b_high = omega (arith, ints, b);
    }

pub small_arcs : (arcs : List AffineArc) → list_any is_large arcs ≡ false → All IsSmallArc arcs
small_arcs [] h = All-nil IsSmallArc
small_arcs (arc ∷ arcs) h =
    let parts = or_parts (is_large arc) (list_any is_large arcs) h in
    All-cons IsSmallArc arc arcs (small_arc arc parts.0) (small_arcs arcs parts.1)

near : (x : Fraction) → is_far x ≡ false → IsNear x
near x h =
    let most = not_below (pos (2 ^ 44) *ℤ x.q) (pos (nat_abs x.p)) h in
    record { low = omega (arith, ints, most); high = omega (arith, ints, most) }

limits : (net : Network) → is_too_big net ≡ false → IsWithinLimits net
limits net h =
    let a = or_parts (nat_lt 8192 net.nodes || nat_lt 32768 (length net.arcs) || list_any is_large net.arcs || is_far net.low) (is_far net.high) h in
    let b = or_parts (nat_lt 8192 net.nodes || nat_lt 32768 (length net.arcs) || list_any is_large net.arcs) (is_far net.low) a.0 in
    let d = or_parts (nat_lt 8192 net.nodes || nat_lt 32768 (length net.arcs)) (list_any is_large net.arcs) b.0 in
    let e = or_parts (nat_lt 8192 net.nodes) (nat_lt 32768 (length net.arcs)) d.0 in
    record {
      nodes = ltb-false 8192 net.nodes e.0;
      arcs = ltb-false 32768 (length net.arcs) e.1;
      each = small_arcs net.arcs d.1;
      low = near net.low b.1;
      high = near net.high a.1;
    }

one_arc : (net : Network) (i : ℕ) (arc : AffineArc) → arc_refusal net i arc ≡ None → IsMonotoneArc net arc
one_arc net i arc h =
    let a = passed (ends_outside net arc) (BadEnd i) _ h in
    let b = passed (not (keeps_slope net.sense net.source net.sink arc)) (NotMonotone i) _ a.1 in
    let d = passed (is_negative net arc) (Negative i) None b.1 in
    let ends = or_parts (nat_le net.nodes arc.tail) (nat_le net.nodes arc.head) a.0 in
    let signs = or_parts (int_lt (capacity_at net.low arc) (pos 0)) (int_lt (capacity_at net.high arc) (pos 0)) d.0 in
    record {
      tail = leb-false net.nodes arc.tail ends.0;
      head = leb-false net.nodes arc.head ends.1;
      slope = told_not (keeps_slope net.sense net.source net.sink arc) b.0;
      low = not_below (capacity_at net.low arc) (pos 0) signs.0;
      high = not_below (capacity_at net.high arc) (pos 0) signs.1;
    }

both_none : {X : Type 0} (x y : Option X) → or_else x y ≡ None → (x ≡ None) × (y ≡ None)
both_none (Some x) y h = absurd cc
both_none None y h = (refl, h)

each_arc : (net : Network) (i : ℕ) (arcs : List AffineArc) → arcs_refusal net i arcs ≡ None → All (IsMonotoneArc net) arcs
each_arc net i [] h = All-nil (IsMonotoneArc net)
each_arc net i (arc ∷ arcs) h =
    let parts = both_none (arc_refusal net i arc) (arcs_refusal net (suc i) arcs) h in
    All-cons (IsMonotoneArc net) arc arcs (one_arc net i arc parts.0) (each_arc net (suc i) arcs parts.1)

apart : (s t : ℕ) → (s == t) ≡ false → s ≢ t
apart s t h e = let same = eq-eqb s t e in cc

below : (x y : Fraction) → is_below x y ≡ true → IsBelow x y
below x y h = grind (arith, ints)

pub built : (net : Network) → net.source < net.nodes → net.sink < net.nodes → IsParameter net.low → IsParameter net.high →
    refusal_of net ≡ None → IsBuilt net
built net source sink low high h =
    let a = passed (is_too_big net) TooBig _ h in
    let b = passed (net.source == net.sink) SameEnds _ a.1 in
    let d = passed (not (is_below net.low net.high)) EmptyInterval _ b.1 in
    record {
      monotone = record {
        source = source;
        sink = sink;
        apart = apart net.source net.sink b.0;
        low = low;
        high = high;
        interval = below net.low net.high (told_not (is_below net.low net.high) d.0);
        each = each_arc net 0 net.arcs d.1;
      };
      limits = limits net a.0;
    }

pub graph_is : (net : Network) → IsMonotone net → IsDigraph (digraph_of net)
graph_is net m = record {
  tails = λ i low.
      let here : i < length net.arcs = omega (arith, low, length-map net.arcs ends_of) in
      rw (get_or-map ends_of net.arcs i no_arc (0, 0) here) (m.each i no_arc here).tail;
  heads = λ i low.
      let here : i < length net.arcs = omega (arith, low, length-map net.arcs ends_of) in
      rw (get_or-map ends_of net.arcs i no_arc (0, 0) here) (m.each i no_arc here).head;
}
