-- Where a text is accepted, its network is within the limits of networks.
use Rattle.std.proofs.Common.{◌≡◌, ℕ, List, [], ◌∷◌, Option, Some, refl, arith}
use Rattle.std.specs.Prelude.{All}
use Rattle.std.proofs.lemmas.Int.{ints}
use Rattle.std.proofs.lemmas.List.Elements.{All-nil, All-cons, All-head, All-tail}
use Rattle.pf_model.specs.declared.AffineArc.{AffineArc}
use Rattle.pf_model.specs.declared.Sense.{Sense}
use Rattle.pf_model.specs.Fraction.{Fraction}
use Rattle.pf_model.specs.Network.{Network, IsMonotone}
use Rattle.pf_net.specs.Limits.{IsSmallArc, IsNear, IsWithinLimits, IsBuilt, with_sense}
use Rattle.pf_par.specs.Text.{ParameterInterval, sense_or_rising}
use Rattle.pf_par.specs.Laws.{IsTextFraction, IsTextArc, IsTextNetwork}
use Rattle.pf_par.specs.Rules.{IsGoodEnd}

small : (arc : AffineArc) → IsTextArc arc → IsSmallArc arc
small arc is =
    let a_low = is.a_low in
    let a_high = is.a_high in
    let b_low = is.b_low in
    let b_high = is.b_high in
    record { a_low = omega (arith, ints, a_low); a_high = omega (arith, ints, a_high); b_low = omega (arith, ints, b_low); b_high = omega (arith, ints, b_high) }

all_small : (arcs : List AffineArc) → All IsTextArc arcs → All IsSmallArc arcs
all_small [] each = All-nil IsSmallArc
all_small (arc ∷ arcs) each =
    All-cons IsSmallArc arc arcs (small arc (All-head IsTextArc arc arcs each)) (all_small arcs (All-tail IsTextArc arc arcs each))

near : (x : Fraction) → IsTextFraction x → IsNear x
near x is =
    let low = is.low in
    let high = is.high in
    let some = is.parameter in
    record { low = omega (arith, ints, low, some); high = omega (arith, ints, high, some) }

within : (net : Network) → IsTextNetwork net → IsWithinLimits net
within net is =
    let nodes = is.nodes_high in
    let arcs = is.arc_count in
    record { nodes = omega (arith, nodes); arcs = omega (arith, arcs); each = all_small net.arcs is.arcs; low = near net.low is.low; high = near net.high is.high }

-- the network of what was given is one that may be built
pub good_network : (nodes : ℕ) (said : Option Sense) (given : Option ParameterInterval) (source sink : Option ℕ) (arcs : List AffineArc) (sense : Sense) (interval : ParameterInterval)
    (low high : Fraction) (s t : ℕ) → sense ≡ sense_or_rising said → low ≡ interval.low → high ≡ interval.high
    → given ≡ Some interval → source ≡ Some s → sink ≡ Some t → IsGoodEnd nodes said given source sink arcs
    → IsBuilt (with_sense sense nodes s t low high arcs)
good_network nodes said given source sink arcs sense interval low high s t is l h i so si good =
    let both : IsMonotone (with_sense (sense_or_rising said) nodes s t interval.low interval.high arcs) × IsTextNetwork (with_sense (sense_or_rising said) nodes s t interval.low interval.high arcs) =
    good (with_sense (sense_or_rising said) nodes s t interval.low interval.high arcs) (rw (i, so, si) refl) in
    rw (is, l, h) (record { monotone = both.0; limits = within (with_sense (sense_or_rising said) nodes s t interval.low interval.high arcs) both.1 })
