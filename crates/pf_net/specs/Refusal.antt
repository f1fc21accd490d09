-- The first reason against a network.
use Rattle.std.specs.Prelude.{ℕ, suc, pos, ◌*ℤ◌, Bool, ◌||◌, not, ◌==◌, nat_lt, nat_le, int_lt, nat_abs, if◌then◌else◌, List, [], ◌∷◌, length, Option, Some, None}
use Rattle.std.specs.List.{list_any}
use Rattle.pf_model.specs.declared.AffineArc.{AffineArc}
use Rattle.pf_model.specs.Fraction.{Fraction, is_below}
use Rattle.pf_model.specs.Limits.{most_nodes, most_arcs, most_constant, most_slope, most_end}
use Rattle.pf_model.specs.Network.{Network, capacity_at, keeps_slope}
use Rattle.pf_net.specs.declared.net.NetBad.{NetBad}
use Rattle.pf_net.specs.declared.net.NetBad.TheVariants.{TooBig, SameEnds, EmptyInterval, BadEnd, NotMonotone, Negative}

-- a coefficient is past its limit
abbrev pub is_large : AffineArc → Bool
is_large arc = nat_lt most_constant (nat_abs arc.a) || nat_lt most_slope (nat_abs arc.b)

-- the parameter has a size above that of an end of an interval
abbrev pub is_far : Fraction → Bool
is_far x = int_lt (pos most_end *ℤ x.q) (pos (nat_abs x.p))

abbrev pub is_too_big : Network → Bool
is_too_big net = nat_lt most_nodes net.nodes || nat_lt most_arcs (length net.arcs) || list_any is_large net.arcs || is_far net.low || is_far net.high

abbrev pub ends_outside : Network → AffineArc → Bool
ends_outside net arc = nat_le net.nodes arc.tail || nat_le net.nodes arc.head

abbrev pub is_negative : Network → AffineArc → Bool
is_negative net arc = int_lt (capacity_at net.low arc) (pos 0) || int_lt (capacity_at net.high arc) (pos 0)

-- the first reason against the arc of the number i
abbrev pub arc_refusal : Network → ℕ → AffineArc → Option NetBad
arc_refusal net i arc =
    if ends_outside net arc then Some (BadEnd i)
    else (if not (keeps_slope net.sense net.source net.sink arc) then Some (NotMonotone i)
    else (if is_negative net arc then Some (Negative i) else None))

abbrev pub or_else : {X : Type 0} → Option X → Option X → Option X
or_else (Some x) other = Some x
or_else None other = other

-- the first reason against arcs of which the first has the number i
abbrev pub arcs_refusal : Network → ℕ → List AffineArc → Option NetBad
arcs_refusal net i [] = None
arcs_refusal net i (arc ∷ arcs) = or_else (arc_refusal net i arc) (arcs_refusal net (suc i) arcs)

-- the first reason against a network whose source and sink are nodes and whose interval ends are parameters
abbrev pub refusal_of : Network → Option NetBad
refusal_of net =
    if is_too_big net then Some TooBig
    else (if net.source == net.sink then Some SameEnds
    else (if not (is_below net.low net.high) then Some EmptyInterval
    else arcs_refusal net 0 net.arcs))
