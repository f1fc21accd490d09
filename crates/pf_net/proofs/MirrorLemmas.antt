-- The mirror of a network that is built is within the limits too.
use Rattle.std.proofs.Common.{◌≡◌, ℕ, ◌<◌, List, length, map, refl, arith, sym, ◌∙◌, subst}
use Rattle.std.specs.Prelude.{ℤ, neg_ℤ, nat_abs}
use Rattle.std.proofs.lemmas.Int.{ints}
use Rattle.std.proofs.lemmas.List.{length-map, get_or-map}
use Rattle.pf_model.specs.declared.AffineArc.{AffineArc}
use Rattle.pf_model.specs.declared.Sense.{Sense}
use Rattle.pf_model.specs.Fraction.{Fraction, IsBoundedFraction, IsLowest, lowest}
use Rattle.pf_model.specs.Network.{Network}
use Rattle.pf_model.specs.Mirror.{negative, other_sense, mirror_arc, mirror}
use Rattle.pf_model.proofs.Affine.{no_arc}
use Rattle.pf_model.proofs.Lowest.{lowest_stays}
use Rattle.pf_model.proofs.Mirror.{monotone_turned}
use Rattle.pf_net.specs.Limits.{IsSmallArc, IsNear, IsBuilt, with_sense}

-- lowest terms stay so
pub lowest_turned : (x : Fraction) → IsLowest x → IsLowest (negative x)
lowest_turned x l =
    let same : nat_abs (neg_ℤ x.p) ≡ nat_abs x.p = omega (arith, ints) in
    record { alone = λ d h k. l.alone d (rw same at h) k }

pub negated_is : (x made : Fraction) (p q : ℤ) → IsBoundedFraction x → IsLowest x → made ≡ lowest (record { p = p; q = q }) → p ≡ neg_ℤ x.p → q ≡ x.q →
    made ≡ negative x
negated_is x made p q b l is e f = is ∙ rw (e, f) (lowest_stays (negative x) b.parameter (lowest_turned x l))

small_turned : (arc : AffineArc) → IsSmallArc arc → IsSmallArc (mirror_arc arc)
small_turned arc s =
    let low = s.b_low in
    let high = s.b_high in
    record { a_low = s.a_low; a_high = s.a_high; b_low = omega (arith, ints, low, high); b_high = omega (arith, ints, low, high) }

near_turned : (x : Fraction) → IsNear x → IsNear (negative x)
near_turned x n =
    let low = n.low in
    let high = n.high in
    record { low = omega (arith, ints, low, high); high = omega (arith, ints, low, high) }

pub mirror_built : (net : Network) → IsBuilt net → IsBuilt (mirror net)
mirror_built net b =
    let limits = b.limits in
    let few = limits.arcs in
    record {
      monotone = monotone_turned net b.monotone;
      limits = record {
        nodes = limits.nodes;
        arcs = omega (arith, few, length-map net.arcs mirror_arc);
        each = λ i d low.
            let here : i < length net.arcs = omega (arith, low, length-map net.arcs mirror_arc) in
            let e = get_or-map mirror_arc net.arcs i no_arc d here in
            subst IsSmallArc (sym e) (small_turned _ (limits.each i no_arc here));
        low = near_turned net.high limits.high;
        high = near_turned net.low limits.low;
      };
    }

-- the same, as the code names it
pub mirror_named : (net : Network) (sense : Sense) (n s t : ℕ) (lo hi : Fraction) (arcs : List AffineArc) → sense ≡ other_sense net.sense → n ≡ net.nodes →
    s ≡ net.source → t ≡ net.sink → lo ≡ negative net.high → hi ≡ negative net.low → arcs ≡ map mirror_arc net.arcs →
    with_sense sense n s t lo hi arcs ≡ mirror net
mirror_named net sense n s t lo hi arcs a b d e f g h = rw (a, b, d, e, f, g, h) refl
