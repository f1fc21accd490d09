-- The numbers that a flow at the best ratio puts on the needs.
use Rattle.std.proofs.Common.{◌≡◌, ℕ, zero, suc, ◌+◌, ◌<◌, ◌≤◌, List, [], ◌∷◌, ◌++◌, length, get_or, drop, map, refl, Bool, true, false, cond, not, arith, ap, ◌∙◌}
use Rattle.std.specs.Prelude.{ℤ, ◌+ℤ◌, ◌-ℤ◌, ◌*ℤ◌, ◌≤ℤ◌, pos, ◌==◌}
use Rattle.std.proofs.lemmas.Int.{ints}
use Rattle.std.proofs.lemmas.Bool.Decides.{nat_tests}
use Rattle.pf_model.specs.declared.AffineArc.{AffineArc}
use Rattle.pf_model.specs.Fraction.{Fraction}
use Rattle.std.proofs.lemmas.List.{length-replicate}
use Rattle.pf_model.specs.Cut.{has, at_arc, leaves, sum_where, capacity, IsCut, IsProper}
use Rattle.pf_model.specs.Flow.{IsFlow, value}
use Rattle.pf_model.specs.Network.{ends_of, capacity_at, network_at}
use Rattle.pf_model.proofs.Integers.{add_mul, mul_comm}
use Rattle.pf_model.proofs.Duality.{tight_from_value}
use Rattle.pf_model.proofs.Search.{has_none}
use Rattle.pf_closure.specs.Problem.{ClosureProblem, IsBoundedProblem}
use Rattle.pf_closure.specs.Reduction.{closure_net, sink_node, side_of, routing_of, item_arcs, need_arc, source_arc, sink_arc}
use Rattle.pf_closure.proofs.Soundness.{IsWithinSlack}
use Rattle.pf_closure.proofs.NetLemmas.{has_side}
use Rattle.pf_closure.proofs.LeastCuts.{none_of, alone_cut}
use Rattle.pf_model.proofs.Facts.{behind_both, none_before, pass_both, skip_one}

-- flows are lists of numbers; the items' arcs take two of them each
pub sum_behind : (test : ℕ × ℕ → Bool) (sink i : ℕ) (costs weights flow : List ℤ) (later : List AffineArc) → length weights ≡ length costs →
    length costs + length costs ≤ length flow →
    sum_where test (map ends_of (item_arcs sink i costs weights ++ later)) flow
    ≡ sum_where test (map ends_of (item_arcs sink i costs weights)) flow +ℤ sum_where test (map ends_of later) (drop (length costs + length costs) flow)
sum_behind test sink i [] [] flow later full room = none_before _
sum_behind test sink i [] (w ∷ weights) flow later full room = absurd (omega arith)
sum_behind test sink i (c ∷ costs) [] flow later full room = absurd (omega arith)
sum_behind test sink i (c ∷ costs) (w ∷ weights) [] later full room = absurd (omega arith)
sum_behind test sink i (c ∷ costs) (w ∷ weights) (f ∷ []) later full room = absurd (omega arith)
sum_behind test sink i (c ∷ costs) (w ∷ weights) (f ∷ (g ∷ flow)) later full room =
    let e : suc (length costs) + suc (length costs) ≡ suc (suc (length costs + length costs)) = omega arith in
    let rest = sum_behind test sink (suc i) costs weights flow later (omega arith) (omega arith) in
    let same = ap (λ n. sum_where test (map ends_of later) (drop n (f ∷ (g ∷ flow)))) e in
    behind_both (cond (test (ends_of (source_arc i w))) f (pos 0)) (cond (test (ends_of (sink_arc sink i c w))) g (pos 0)) _ _ _ _ rest same

-- items after the one that is looked for
skip_out : (p q : Bool) (x y a : ℤ) → p ≡ false → q ≡ false → a ≡ pos 0 → cond p x (pos 0) +ℤ (cond q y (pos 0) +ℤ a) ≡ pos 0
skip_out true q x y a e f h = cc
skip_out false true x y a e f h = cc
skip_out false false x y a e f h = omega (arith, ints)

other : (i t : ℕ) → t < i → (suc i == suc t) ≡ false
other i t low = grind (arith, nat_tests)

before : (i t : ℕ) → i < t → (suc i == suc t) ≡ false
before i t low = grind (arith, nat_tests)

equals : (i t : ℕ) → t ≡ i → (suc i == suc t) ≡ true
equals i t e = grind (arith, nat_tests)

first_node : (t : ℕ) → (0 == suc t) ≡ false
first_node t = grind (arith, nat_tests)

pub out_later : (sink i t : ℕ) (costs weights flow : List ℤ) → t < i →
    sum_where (λ arc. arc.0 == suc t) (map ends_of (item_arcs sink i costs weights)) flow ≡ pos 0
out_later sink i t [] weights flow low = refl
out_later sink i t (c ∷ costs) [] flow low = refl
out_later sink i t (c ∷ costs) (w ∷ weights) [] low = refl
out_later sink i t (c ∷ costs) (w ∷ weights) (f ∷ []) low = skip_one (0 == suc t) f (first_node t)
out_later sink i t (c ∷ costs) (w ∷ weights) (f ∷ (g ∷ flow)) low =
    skip_out (0 == suc t) (suc i == suc t) f g _ (first_node t) (other i t low) (out_later sink (suc i) t costs weights flow (omega arith))

pub in_later : (sink i t : ℕ) (costs weights flow : List ℤ) → t < i → (sink == suc t) ≡ false →
    sum_where (λ arc. arc.1 == suc t) (map ends_of (item_arcs sink i costs weights)) flow ≡ pos 0
in_later sink i t [] weights flow low off = refl
in_later sink i t (c ∷ costs) [] flow low off = refl
in_later sink i t (c ∷ costs) (w ∷ weights) [] low off = refl
in_later sink i t (c ∷ costs) (w ∷ weights) (f ∷ []) low off = skip_one (suc i == suc t) f (other i t low)
in_later sink i t (c ∷ costs) (w ∷ weights) (f ∷ (g ∷ flow)) low off =
    skip_out (suc i == suc t) (sink == suc t) f g _ (other i t low) off (in_later sink (suc i) t costs weights flow (omega arith) off)

-- the arc from the item i + k to the sink has the number 2 k + 1, that from the source the number 2 k
take_out : (p q : Bool) (x y a : ℤ) → p ≡ false → q ≡ true → a ≡ pos 0 → cond p x (pos 0) +ℤ (cond q y (pos 0) +ℤ a) ≡ y
take_out true q x y a e f h = cc
take_out false true x y a e f h = omega (arith, ints)
take_out false false x y a e f h = cc

take_in : (p q : Bool) (x y a : ℤ) → p ≡ true → q ≡ false → a ≡ pos 0 → cond p x (pos 0) +ℤ (cond q y (pos 0) +ℤ a) ≡ x
take_in true true x y a e f h = cc
take_in true false x y a e f h = omega (arith, ints)
take_in false q x y a e f h = cc

pub out_of_item : (sink i k t : ℕ) (costs weights flow : List ℤ) → length weights ≡ length costs → length costs + length costs ≤ length flow → k < length costs →
    t ≡ i + k → sum_where (λ arc. arc.0 == suc t) (map ends_of (item_arcs sink i costs weights)) flow ≡ at_arc flow (suc (k + k))
out_of_item sink i k t [] weights flow full room low e = absurd (omega arith)
out_of_item sink i k t (c ∷ costs) [] flow full room low e = absurd (omega arith)
out_of_item sink i k t (c ∷ costs) (w ∷ weights) [] full room low e = absurd (omega arith)
out_of_item sink i k t (c ∷ costs) (w ∷ weights) (f ∷ []) full room low e = absurd (omega arith)
out_of_item sink i zero t (c ∷ costs) (w ∷ weights) (f ∷ (g ∷ flow)) full room low e =
    take_out (0 == suc t) (suc i == suc t) f g _ (first_node t) (equals i t (omega (arith, e))) (out_later sink (suc i) t costs weights flow (omega (arith, e)))
out_of_item sink i (suc k) t (c ∷ costs) (w ∷ weights) (f ∷ (g ∷ flow)) full room low e =
    let d : suc (suc (suc (k + k))) ≡ suc (suc k + suc k) = omega arith in
    pass_both (0 == suc t) (suc i == suc t) f g _ _ (first_node t) (before i t (omega (arith, e)))
    (out_of_item sink (suc i) k t costs weights flow (omega arith) (omega arith) (omega arith) (omega (arith, e)))
    ∙ ap (λ n. at_arc (f ∷ (g ∷ flow)) n) d

pub into_item : (sink i k t : ℕ) (costs weights flow : List ℤ) → length weights ≡ length costs → length costs + length costs ≤ length flow → k < length costs →
    t ≡ i + k → (sink == suc t) ≡ false →
    sum_where (λ arc. arc.1 == suc t) (map ends_of (item_arcs sink i costs weights)) flow ≡ at_arc flow (k + k)
into_item sink i k t [] weights flow full room low e off = absurd (omega arith)
into_item sink i k t (c ∷ costs) [] flow full room low e off = absurd (omega arith)
into_item sink i k t (c ∷ costs) (w ∷ weights) [] full room low e off = absurd (omega arith)
into_item sink i k t (c ∷ costs) (w ∷ weights) (f ∷ []) full room low e off = absurd (omega arith)
into_item sink i zero t (c ∷ costs) (w ∷ weights) (f ∷ (g ∷ flow)) full room low e off =
    take_in (suc i == suc t) (sink == suc t) f g _ (equals i t (omega (arith, e))) off (in_later sink (suc i) t costs weights flow (omega (arith, e)) off)
into_item sink i (suc k) t (c ∷ costs) (w ∷ weights) (f ∷ (g ∷ flow)) full room low e off =
    let d : suc (suc (k + k)) ≡ suc k + suc k = omega arith in
    pass_both (suc i == suc t) (sink == suc t) f g _ _ (before i t (omega (arith, e))) off
    (into_item sink (suc i) k t costs weights flow (omega arith) (omega arith) (omega arith) (omega (arith, e)) off)
    ∙ ap (λ n. at_arc (f ∷ (g ∷ flow)) n) d

-- the arcs of needs, whose ends are the items' numbers and one more
same_test : (u t : ℕ) → (suc u == suc t) ≡ (u == t)
same_test u t = grind (arith, nat_tests)

need_same : (b d : Bool) (x a c : ℤ) → b ≡ d → a ≡ c → cond b x (pos 0) +ℤ a ≡ cond d x (pos 0) +ℤ c
need_same b d x a c e h = rw (e, h) refl

pub needs_out : (t : ℕ) (needs : List (ℕ × ℕ)) (flow : List ℤ) →
    sum_where (λ arc. arc.0 == suc t) (map ends_of (map need_arc needs)) flow ≡ sum_where (λ arc. arc.0 == t) needs flow
needs_out t [] flow = refl
needs_out t (need ∷ needs) [] = refl
needs_out t (need ∷ needs) (f ∷ flow) =
    need_same (suc need.0 == suc t) (need.0 == t) f _ _ (same_test need.0 t) (needs_out t needs flow)

pub needs_in : (t : ℕ) (needs : List (ℕ × ℕ)) (flow : List ℤ) →
    sum_where (λ arc. arc.1 == suc t) (map ends_of (map need_arc needs)) flow ≡ sum_where (λ arc. arc.1 == t) needs flow
needs_in t [] flow = refl
needs_in t (need ∷ needs) [] = refl
needs_in t (need ∷ needs) (f ∷ flow) =
    need_same (suc need.1 == suc t) (need.1 == t) f _ _ (same_test need.1 t) (needs_in t needs flow)

-- what stands beside the two arcs of an item
pub beside_source : {B : Type 0} (f : AffineArc → B) (d : B) (sink i k t : ℕ) (costs weights : List ℤ) (later : List AffineArc) → length weights ≡ length costs →
    k < length costs → t ≡ i + k → get_or (map f (item_arcs sink i costs weights ++ later)) (k + k) d ≡ f (source_arc t (at_arc weights k))
beside_source f d sink i k t [] weights later full low e = absurd (omega arith)
beside_source f d sink i k t (c ∷ costs) [] later full low e = absurd (omega arith)
beside_source f d sink i zero t (c ∷ costs) (w ∷ weights) later full low e =
    let same : i ≡ t = omega (arith, e) in
    ap (λ n. f (source_arc n w)) same
beside_source f d sink i (suc k) t (c ∷ costs) (w ∷ weights) later full low e =
    let g : suc k + suc k ≡ suc (suc (k + k)) = omega arith in
    ap (λ n. get_or (map f (item_arcs sink i (c ∷ costs) (w ∷ weights) ++ later)) n d) g
    ∙ beside_source f d sink (suc i) k t costs weights later (omega arith) (omega arith) (omega (arith, e))

pub beside_sink : {B : Type 0} (f : AffineArc → B) (d : B) (sink i k t : ℕ) (costs weights : List ℤ) (later : List AffineArc) → length weights ≡ length costs →
    k < length costs → t ≡ i + k →
    get_or (map f (item_arcs sink i costs weights ++ later)) (suc (k + k)) d ≡ f (sink_arc sink t (at_arc costs k) (at_arc weights k))
beside_sink f d sink i k t [] weights later full low e = absurd (omega arith)
beside_sink f d sink i k t (c ∷ costs) [] later full low e = absurd (omega arith)
beside_sink f d sink i zero t (c ∷ costs) (w ∷ weights) later full low e =
    let same : i ≡ t = omega (arith, e) in
    ap (λ n. f (sink_arc sink n c w)) same
beside_sink f d sink i (suc k) t (c ∷ costs) (w ∷ weights) later full low e =
    let g : suc (suc k + suc k) ≡ suc (suc (suc (k + k))) = omega arith in
    ap (λ n. get_or (map f (item_arcs sink i (c ∷ costs) (w ∷ weights) ++ later)) n d) g
    ∙ beside_sink f d sink (suc i) k t costs weights later (omega arith) (omega arith) (omega (arith, e))

pub room_for_items : (sink i : ℕ) (costs weights : List ℤ) (later : List AffineArc) → length weights ≡ length costs →
    length costs + length costs ≤ length (map ends_of (item_arcs sink i costs weights ++ later))
room_for_items sink i [] weights later full = omega arith
room_for_items sink i (c ∷ costs) [] later full = absurd (omega arith)
room_for_items sink i (c ∷ costs) (w ∷ weights) later full =
    let rest = room_for_items sink (suc i) costs weights later (omega arith) in
    omega (arith, rest)

-- at an item as much leaves as enters, the arc from the source is full, and that to the sink carries at most its capacity
within_step : (f g brings takes c w q p into out : ℤ) → out ≡ g +ℤ takes → into ≡ f +ℤ brings → out ≡ into →
    (((pos 1000001 *ℤ w) *ℤ q) +ℤ (w *ℤ p)) ≤ℤ f → g ≤ℤ ((((pos 1000001 *ℤ w) +ℤ c) *ℤ q) +ℤ (pos 0 *ℤ p)) →
    (brings -ℤ takes) ≤ℤ ((q *ℤ c) -ℤ (p *ℤ w))
within_step f g brings takes c w q p into out e h same low high =
    let spread = add_mul (pos 1000001 *ℤ w) c q in
    let none : pos 0 *ℤ p ≡ pos 0 = omega (arith, ints) in
    omega (arith, ints, e, h, same, low, high, spread, none, mul_comm c q, mul_comm w p)

joined : (a b c d e : ℤ) → a ≡ b +ℤ c → b ≡ d → c ≡ e → a ≡ d +ℤ e
joined a b c d e h l m = omega (arith, ints, h, l, m)

leaves_alone : (p : ClosureProblem) (i : ℕ) → i < length p.costs → leaves (side_of (none_of p)) (0, suc i) ≡ true
leaves_alone p i low =
    let off : has (side_of (none_of p)) (suc i) ≡ false =
    has_side (none_of p) i (omega (arith, low, length-replicate (length p.costs) false)) ∙ has_none (length p.costs) i in
    ap not off

pub routing_within : (p : ClosureProblem) (x : Fraction) (flow : List ℤ) → IsBoundedProblem p → IsProper (network_at (closure_net p) x) → IsFlow (network_at (closure_net p) x) flow →
    value (network_at (closure_net p) x) flow ≡ capacity (network_at (closure_net p) x) (side_of (none_of p)) → IsWithinSlack p x (routing_of p flow)
routing_within p x flow items proper f meets i low =
    let g = network_at (closure_net p) x in
    let sink = sink_node p in
    let full = items.problem.full in
    let later = map need_arc p.needs in
    let wide = room_for_items sink 0 p.costs p.weights later full in
    let room : length p.costs + length p.costs ≤ length flow = let e = f.within.full in omega (arith, wide, e) in
    let here : i ≡ 0 + i = omega arith in
    let off : (sink == suc i) ≡ false = grind (arith, nat_tests) in
    let out = sum_behind (λ arc. arc.0 == suc i) sink 0 p.costs p.weights flow later full room in
    let into = sum_behind (λ arc. arc.1 == suc i) sink 0 p.costs p.weights flow later full room in
    let out' = out_of_item sink 0 i i p.costs p.weights flow full room low here in
    let into' = into_item sink 0 i i p.costs p.weights flow full room low here off in
    let takes = needs_out i p.needs (routing_of p flow) in
    let brings = needs_in i p.needs (routing_of p flow) in
    let alone : IsCut g (side_of (none_of p)) = alone_cut p x in
    let tight = tight_from_value g flow (side_of (none_of p)) proper f alone (omega (arith, ints, meets)) in
    let first = beside_source ends_of (0, 0) sink 0 i i p.costs p.weights later full low here in
    let source_cap = beside_source (capacity_at x) (pos 0) sink 0 i i p.costs p.weights later full low here in
    let sink_cap = beside_sink (capacity_at x) (pos 0) sink 0 i i p.costs p.weights later full low here in
    let low_first = tight.full (i + i) (record { in_range = omega (arith, wide, low); passes = ap (leaves (side_of (none_of p))) first ∙ leaves_alone p i low }) in
    let high_second = f.within.high (suc (i + i)) (omega (arith, wide, low)) in
    let kept = f.kept (suc i) (omega (arith, low)) (omega arith) (omega (arith, low)) in
    within_step (at_arc flow (i + i)) (at_arc flow (suc (i + i))) _ _ (at_arc p.costs i) (at_arc p.weights i) x.q x.p _ _
    (joined _ _ _ _ _ out out' takes) (joined _ _ _ _ _ into into' brings)
    kept (omega (arith, ints, source_cap, low_first)) (omega (arith, ints, sink_cap, high_second))
