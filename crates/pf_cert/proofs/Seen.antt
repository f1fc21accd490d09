-- What the code has computed at a point, in the words of the definitions.
use Rattle.std.proofs.Common.{◌≡◌, ℕ, ◌<◌, List, length, map, get_or, Bool, arith, ap, sym, ◌∙◌, subst}
use Rattle.std.specs.Prelude.{ℤ}
use Rattle.std.proofs.lemmas.List.{get_or_default}
use Rattle.pf_model.specs.Fraction.{Fraction}
use Rattle.pf_model.specs.Line.{AffineLine, value_at}
use Rattle.pf_model.specs.Cut.{capacity}
use Rattle.pf_model.specs.Flow.{IsFlow, flow_value, value}
use Rattle.pf_model.specs.Digraph.{Digraph, network_of}
use Rattle.pf_model.specs.Residual.{IsReach}
use Rattle.pf_model.specs.Network.{Network, IsMonotone, IsInInterval, network_at, capacity_at, line_of}
use Rattle.pf_model.specs.Curve.{IsDivision, point_at}
use Rattle.pf_model.proofs.Affine.{capacity_of_line}
use Rattle.pf_model.proofs.Certificate.{point_inside}
use Rattle.pf_frame.specs.Numbers.{IsBounded}
use Rattle.pf_net.specs.Limits.{digraph_of}

-- point j, from the element that the code has read
pub point_here : (net : Network) (points shown : List Fraction) (j : ℕ) (x : Fraction) → shown ≡ points → j < length shown → x ≡ get_or shown j x → x ≡ point_at net points j
point_here net points shown j x same low is_x =
    is_x ∙ get_or_default shown j x net.low low ∙ ap (λ (l : List Fraction). point_at net l j) same

-- it lies in the interval
pub inside_here : (net : Network) (points shown : List Fraction) (cuts : List (List Bool)) (j : ℕ) (x : Fraction) → IsMonotone net → IsDivision net points cuts →
    shown ≡ points → j < length shown → x ≡ get_or shown j x → IsInInterval net x
inside_here net points shown cuts j x m d same low is_x =
    let P : Fraction → Type 0 = λ y. IsInInterval net y in
    subst P (sym (point_here net points shown j x same low is_x)) (point_inside net points cuts m d j (omega (arith, low, ap length same, d.count)))

pub value_here : (net : Network) (x : Fraction) (frame : Digraph) (s : ℕ) (shown flow : List ℤ) (sent : ℤ) → frame ≡ digraph_of net → s ≡ net.source → shown ≡ flow →
    sent ≡ flow_value frame.ends shown s → sent ≡ value (network_at net x) flow
value_here net x frame s shown flow sent is_frame is_s is_flow e = rw (is_frame, is_s, is_flow) at e

pub level_here : (net : Network) (x at : Fraction) (shown cut : List Bool) (line : AffineLine) (level : ℤ) → shown ≡ cut → line ≡ line_of net shown → at ≡ x →
    level ≡ value_at line at → level ≡ capacity (network_at net x) cut
level_here net x at shown cut line level is_cut is_line is_at e =
    let same : line ≡ line_of net cut = is_line ∙ ap (line_of net) is_cut in
    (rw (same, is_at) at e) ∙ sym (capacity_of_line net x cut)

pub reach_here : (net : Network) (x at : Fraction) (frame : Digraph) (s : ℕ) (caps shown flow : List ℤ) (side : List Bool) → frame ≡ digraph_of net → s ≡ net.source →
    at ≡ x → caps ≡ map (capacity_at at) net.arcs → shown ≡ flow → ((t : ℕ) → IsReach (network_of frame caps s t) shown side) → IsReach (network_at net x) flow side
reach_here net x at frame s caps shown flow side is_frame is_s is_at is_caps is_flow h =
    rw (is_frame, is_s, is_caps, is_at, is_flow) at (h net.sink)

pub flow_here : (net : Network) (x at : Fraction) (shown flow : List ℤ) → at ≡ x → shown ≡ flow → IsFlow (network_at net at) shown → IsFlow (network_at net x) flow
flow_here net x at shown flow is_at is_flow h = rw (is_at, is_flow) at h

pub flow_there : (net : Network) (x at : Fraction) (shown flow : List ℤ) → at ≡ x → shown ≡ flow → IsFlow (network_at net x) flow → IsFlow (network_at net at) shown
flow_there net x at shown flow is_at is_flow h = rw (is_at, is_flow) h

pub bounded_here : (net : Network) (shown flow : List ℤ) → shown ≡ flow → IsBounded (digraph_of net) shown → IsBounded (digraph_of net) flow
bounded_here net shown flow is_flow h = rw is_flow at h
