-- The cuts of a closure problem's network.
use Rattle.std.proofs.Common.{◌≡◌, ℕ, zero, suc, ◌+◌, ◌<◌, List, [], ◌∷◌, ◌++◌, length, get_or, refl, Bool, true, false, cond, not, ◌&&◌, arith, ap, sym, ◌∙◌}
use Rattle.std.specs.Prelude.{ℤ, ◌+ℤ◌, ◌-ℤ◌, ◌*ℤ◌, pos, map}
use Rattle.std.proofs.lemmas.Int.{ints}
use Rattle.pf_model.specs.declared.AffineArc.{AffineArc}
use Rattle.pf_model.specs.Fraction.{Fraction}
use Rattle.pf_model.specs.Cut.{has, leaves, sum_where}
use Rattle.pf_model.specs.Network.{IsNetworkCut, ends_of, cut_a, cut_b, network_at}
use Rattle.pf_model.specs.Cut.{capacity}
use Rattle.pf_model.proofs.Integers.{add_mul, mul_assoc, mul_comm}
use Rattle.pf_model.proofs.Affine.{capacity_of_line}
use Rattle.pf_closure.specs.Problem.{ClosureProblem, IsClosureProblem, IsClosure, needing_at, needed_at, sum_of_side, cost_of, weight_of, sum_of_all}
use Rattle.pf_closure.specs.Laws.{IsClosureLine}
use Rattle.pf_closure.specs.Reduction.{closure_net, item_arcs, need_arc, side_of, sink_node}
use Rattle.pf_model.proofs.Facts.{add_before, need_step, none_before}

-- a number beside each arc of a list of arcs
abbrev pub sum_beside : (AffineArc → ℤ) → List Bool → List AffineArc → ℤ
sum_beside number side arcs = sum_where (leaves side) (map ends_of arcs) (map number arcs)

pub sum_beside_append : (number : AffineArc → ℤ) (side : List Bool) (xs ys : List AffineArc) →
    sum_beside number side (xs ++ ys) ≡ sum_beside number side xs +ℤ sum_beside number side ys
sum_beside_append number side [] ys = none_before _
sum_beside_append number side (x ∷ xs) ys =
    add_before (cond (leaves side (ends_of x)) (number x) (pos 0)) _ _ _ (sum_beside_append number side xs ys)

-- the arcs of one item: from the source where it is not in the set, and to the sink where it is
item_a : (b source sink : Bool) (w c rest weights costs : ℤ) → source ≡ true → sink ≡ false → rest ≡ (pos 1000001 *ℤ weights) +ℤ costs →
    cond (source && not b) (pos 1000001 *ℤ w) (pos 0) +ℤ (cond (b && not sink) ((pos 1000001 *ℤ w) +ℤ c) (pos 0) +ℤ rest)
    ≡ (pos 1000001 *ℤ (w +ℤ weights)) +ℤ (cond b c (pos 0) +ℤ costs)
item_a true true false w c rest weights costs e f h = omega (arith, ints)
item_a false true false w c rest weights costs e f h = omega (arith, ints)
item_a b false sink w c rest weights costs e f h = cc
item_a b source true w c rest weights costs e f h = cc

item_b : (b source sink : Bool) (w rest weights inside : ℤ) → source ≡ true → sink ≡ false → rest ≡ weights -ℤ inside →
    cond (source && not b) w (pos 0) +ℤ (cond (b && not sink) (pos 0) (pos 0) +ℤ rest) ≡ (w +ℤ weights) -ℤ (cond b w (pos 0) +ℤ inside)
item_b true true false w rest weights inside e f h = omega (arith, ints)
item_b false true false w rest weights inside e f h = omega (arith, ints)
item_b b false sink w rest weights inside e f h = cc
item_b b source true w rest weights inside e f h = cc

-- the set as it stands in the side from the node i + 1 on
abbrev pub StandsFrom : List Bool → ℕ → List Bool → Type 0
StandsFrom side i set = (k : ℕ) → k < length set → has side (suc (i + k)) ≡ has set k

stands_later : (side : List Bool) (i : ℕ) (b : Bool) (set : List Bool) → StandsFrom side i (b ∷ set) → StandsFrom side (suc i) set
stands_later side i b set h k low =
    let e : suc i + k ≡ i + suc k = omega arith in
    ap (λ n. has side (suc n)) e ∙ h (suc k) (omega arith)

stands_here : (side : List Bool) (i : ℕ) (b : Bool) (set : List Bool) → StandsFrom side i (b ∷ set) → has side (suc i) ≡ b
stands_here side i b set h =
    let e : i ≡ i + 0 = omega arith in
    ap (λ n. has side (suc n)) e ∙ h 0 (omega arith)

pub items_a : (side : List Bool) (sink i : ℕ) (set : List Bool) (costs weights : List ℤ) → has side 0 ≡ true → has side sink ≡ false →
    length set ≡ length costs → length weights ≡ length costs → StandsFrom side i set →
    sum_beside (λ arc. arc.a) side (item_arcs sink i costs weights) ≡ (pos 1000001 *ℤ sum_of_all weights) +ℤ sum_of_side set costs
items_a side sink i [] [] [] source out full wide h = omega (arith, ints)
items_a side sink i [] [] (w ∷ weights) source out full wide h = absurd (omega arith)
items_a side sink i [] (c ∷ costs) weights source out full wide h = absurd (omega arith)
items_a side sink i (b ∷ set) [] weights source out full wide h = absurd (omega arith)
items_a side sink i (b ∷ set) (c ∷ costs) [] source out full wide h = absurd (omega arith)
items_a side sink i (b ∷ set) (c ∷ costs) (w ∷ weights) source out full wide h =
    rw (stands_here side i b set h)
    (item_a b (has side 0) (has side sink) w c _ (sum_of_all weights) (sum_of_side set costs) source out
    (items_a side sink (suc i) set costs weights source out (omega arith) (omega arith) (stands_later side i b set h)))

pub items_b : (side : List Bool) (sink i : ℕ) (set : List Bool) (costs weights : List ℤ) → has side 0 ≡ true → has side sink ≡ false →
    length set ≡ length costs → length weights ≡ length costs → StandsFrom side i set →
    sum_beside (λ arc. arc.b) side (item_arcs sink i costs weights) ≡ sum_of_all weights -ℤ sum_of_side set weights
items_b side sink i [] [] [] source out full wide h = omega (arith, ints)
items_b side sink i [] [] (w ∷ weights) source out full wide h = absurd (omega arith)
items_b side sink i [] (c ∷ costs) weights source out full wide h = absurd (omega arith)
items_b side sink i (b ∷ set) [] weights source out full wide h = absurd (omega arith)
items_b side sink i (b ∷ set) (c ∷ costs) [] source out full wide h = absurd (omega arith)
items_b side sink i (b ∷ set) (c ∷ costs) (w ∷ weights) source out full wide h =
    rw (stands_here side i b set h)
    (item_b b (has side 0) (has side sink) w _ (sum_of_all weights) (sum_of_side set weights) source out
    (items_b side sink (suc i) set costs weights source out (omega arith) (omega arith) (stands_later side i b set h)))

pub needs_none : (number : AffineArc → ℤ) (side : List Bool) (needs : List (ℕ × ℕ)) →
    ((k : ℕ) → k < length needs → has side (suc (get_or needs k (0, 0)).0) ≡ true → has side (suc (get_or needs k (0, 0)).1) ≡ true) →
    sum_beside number side (map need_arc needs) ≡ pos 0
needs_none number side [] h = refl
needs_none number side (need ∷ needs) h =
    need_step (has side (suc need.0)) (has side (suc need.1)) (number (need_arc need)) _ (h 0 (omega arith))
    (needs_none number side needs (λ k low. h (suc k) (omega (arith, low))))

-- the side of a set
pub has_side : (set : List Bool) (k : ℕ) → k < length set → has (set ++ (false ∷ [])) k ≡ has set k
has_side [] k low = absurd (omega arith)
has_side (b ∷ set) zero low = refl
has_side (b ∷ set) (suc k) low = has_side set k (omega arith)

pub has_end : (set : List Bool) → has (set ++ (false ∷ [])) (length set) ≡ false
has_end [] = refl
has_end (b ∷ set) = has_end set

pub length_side : (set : List Bool) → length (set ++ (false ∷ [])) ≡ suc (length set)
length_side [] = refl
length_side (b ∷ set) = ap suc (length_side set)

pub side_stands : (set : List Bool) → StandsFrom (side_of set) 0 set
side_stands set k low =
    let e : 0 + k ≡ k = omega arith in
    ap (λ n. has (set ++ (false ∷ [])) n) e ∙ has_side set k low

pub side_out : (p : ClosureProblem) (set : List Bool) → length set ≡ length p.costs → has (side_of set) (sink_node p) ≡ false
side_out p set full = ap (λ n. has (set ++ (false ∷ [])) n) (sym full) ∙ has_end set

side_closed : (p : ClosureProblem) (set : List Bool) → IsClosureProblem p → IsClosure p set → (k : ℕ) → k < length p.needs →
    has (side_of set) (suc (get_or p.needs k (0, 0)).0) ≡ true → has (side_of set) (suc (get_or p.needs k (0, 0)).1) ≡ true
side_closed p set problem c k low h =
    let full = c.full in
    let u : needing_at p k < length set = let w = problem.needing k low in omega (arith, w) in
    let v : needed_at p k < length set = let w = problem.needed k low in omega (arith, w) in
    has_side set _ v ∙ c.closed k low (sym (has_side set _ u) ∙ h)

pub closure_a : (p : ClosureProblem) (set : List Bool) → IsClosureProblem p → IsClosure p set →
    cut_a (closure_net p) (side_of set) ≡ (pos 1000001 *ℤ sum_of_all p.weights) +ℤ cost_of p set
closure_a p set problem c =
    let split = sum_beside_append (λ arc. arc.a) (side_of set) (item_arcs (sink_node p) 0 p.costs p.weights) (map need_arc p.needs) in
    let first = items_a (side_of set) (sink_node p) 0 set p.costs p.weights refl (side_out p set c.full) c.full problem.full (side_stands set) in
    let none = needs_none (λ arc. arc.a) (side_of set) p.needs (side_closed p set problem c) in
    omega (arith, ints, split, first, none)

pub closure_b : (p : ClosureProblem) (set : List Bool) → IsClosureProblem p → IsClosure p set →
    cut_b (closure_net p) (side_of set) ≡ sum_of_all p.weights -ℤ weight_of p set
closure_b p set problem c =
    let split = sum_beside_append (λ arc. arc.b) (side_of set) (item_arcs (sink_node p) 0 p.costs p.weights) (map need_arc p.needs) in
    let first = items_b (side_of set) (sink_node p) 0 set p.costs p.weights refl (side_out p set c.full) c.full problem.full (side_stands set) in
    let none = needs_none (λ arc. arc.b) (side_of set) p.needs (side_closed p set problem c) in
    omega (arith, ints, split, first, none)

value_step : (a b q p w c v : ℤ) → a ≡ (pos 1000001 *ℤ w) +ℤ c → b ≡ w -ℤ v →
    (a *ℤ q) +ℤ (b *ℤ p) ≡ (((pos 1000001 *ℤ q) +ℤ p) *ℤ w) +ℤ ((q *ℤ c) -ℤ (p *ℤ v))
value_step a b q p w c v e f =
    let left = ap (λ n. n *ℤ q) e ∙ add_mul (pos 1000001 *ℤ w) c q in
    let back : w ≡ b +ℤ v = omega (arith, ints, f) in
    let right = ap (λ n. n *ℤ p) back ∙ add_mul b v p in
    let spread = add_mul (pos 1000001 *ℤ q) p w in
    let deep : (pos 1000001 *ℤ q) *ℤ w ≡ (pos 1000001 *ℤ w) *ℤ q =
    mul_assoc (pos 1000001) q w ∙ ap (λ n. pos 1000001 *ℤ n) (mul_comm q w) ∙ sym (mul_assoc (pos 1000001) w q) in
    omega (arith, ints, left, right, spread, deep, mul_comm p w, mul_comm v p, mul_comm c q)

pub closure_capacity : (p : ClosureProblem) (set : List Bool) (x : Fraction) → IsClosureProblem p → IsClosure p set →
    capacity (network_at (closure_net p) x) (side_of set)
    ≡ ((((pos 1000001 *ℤ x.q) +ℤ x.p) *ℤ sum_of_all p.weights) +ℤ ((x.q *ℤ cost_of p set) -ℤ (x.p *ℤ weight_of p set)))
closure_capacity p set x problem c =
    capacity_of_line (closure_net p) x (side_of set)
    ∙ value_step _ _ x.q x.p (sum_of_all p.weights) (cost_of p set) (weight_of p set) (closure_a p set problem c) (closure_b p set problem c)

pub closure_cut : (p : ClosureProblem) (set : List Bool) → length set ≡ length p.costs → IsNetworkCut (closure_net p) (side_of set)
closure_cut p set full = record {
  full = ap suc (length_side set ∙ ap suc full);
  with_source = refl;
  without_sink = side_out p set full;
}

pub closure_line : (p : ClosureProblem) (set : List Bool) → IsClosureProblem p → IsClosure p set → IsClosureLine p set
closure_line p set problem c = record {
  cut = closure_cut p set c.full;
  constant = closure_a p set problem c;
  slope = closure_b p set problem c;
}
