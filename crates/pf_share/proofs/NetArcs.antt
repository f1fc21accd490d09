-- The arcs of the network: how many there are, where each stands, and sums over them.
use Rattle.std.proofs.Common.{◌≡◌, ◌≢◌, ℕ, zero, suc, ◌+◌, ◌-◌, ◌<◌, List, [], ◌∷◌, ◌++◌, length, get_or, drop, map, refl, Bool, true, false, cond, not, ◌&&◌, arith, ap, sym, ◌∙◌, inl, inr, zero-add}
use Rattle.std.specs.Prelude.{ℤ, ◌+ℤ◌, ◌*ℤ◌, ◌≤ℤ◌, pos, ◌⊎◌, ◌==◌}
use Rattle.std.proofs.lemmas.Int.{ints}
use Rattle.std.proofs.lemmas.Bool.{cases_lt, false≢true}
use Rattle.std.proofs.lemmas.Bool.Decides.{nat_tests}
use Rattle.std.proofs.lemmas.List.{length-map, length-append, length-drop, get_or-map, get_or_append_left, get_or-append-add, get_or-drop}
use Rattle.pf_model.specs.declared.AffineArc.{AffineArc}
use Rattle.pf_model.specs.Fraction.{Fraction}
use Rattle.pf_model.specs.Cut.{FlowNetwork, has, leaves, at_arc, sum_where}
use Rattle.pf_model.specs.Flow.{sum_out, sum_in}
use Rattle.pf_model.specs.Network.{ends_of, capacity_at, network_at, cut_a, cut_b}
use Rattle.pf_model.proofs.Sums.{sum_where_empty}
use Rattle.pf_model.proofs.Affine.{no_arc}
use Rattle.pf_share.specs.Problem.{ShareProblem, IsShareProblem}
use Rattle.pf_share.specs.Reduction.{flow_arc, source_arc, flow_arcs, source_arcs, share_net}
use Rattle.pf_model.proofs.Facts.{add_before_by, none_before}

-- how many

flow_full : (ends : List (ℕ × ℕ)) (cs : List ℤ) → length cs ≡ length ends → length (flow_arcs ends cs) ≡ length ends
flow_full [] cs full = refl
flow_full (arc ∷ ends) [] full = absurd (omega (arith, full))
flow_full (arc ∷ ends) (c ∷ cs) full = ap suc (flow_full ends cs (omega (arith, full)))

source_full : (s v : ℕ) (ws : List ℤ) → length (source_arcs s v ws) ≡ length ws
source_full s v [] = refl
source_full s v (w ∷ ws) = ap suc (source_full s (suc v) ws)

pub arcs_full : (p : ShareProblem) → IsShareProblem p → length (share_net p).arcs ≡ length p.ends + p.nodes
arcs_full p h =
    let a = length-append (flow_arcs p.ends p.capacities) (source_arcs p.nodes 0 p.weights) in
    let b = flow_full p.ends p.capacities h.capacities_full in
    let c = source_full p.nodes 0 p.weights in
    let d = h.weights_full in
    omega (arith, a, b, c, d)

-- which arc stands where

get_flow : (i : ℕ) (ends : List (ℕ × ℕ)) (cs : List ℤ) (d : AffineArc) → length cs ≡ length ends → i < length ends →
    get_or (flow_arcs ends cs) i d ≡ flow_arc (get_or ends i (0, 0)) (at_arc cs i)
get_flow i [] cs d full low = absurd (omega (arith, low))
get_flow i (arc ∷ ends) [] d full low = absurd (omega (arith, full))
get_flow zero (arc ∷ ends) (c ∷ cs) d full low = refl
get_flow (suc i) (arc ∷ ends) (c ∷ cs) d full low = get_flow i ends cs d (omega (arith, full)) (omega (arith, low))

get_source : (i s v : ℕ) (ws : List ℤ) (d : AffineArc) → i < length ws → get_or (source_arcs s v ws) i d ≡ source_arc s (v + i) (at_arc ws i)
get_source i s v [] d low = absurd (omega (arith, low))
get_source zero s v (w ∷ ws) d low = let e : v ≡ v + 0 = omega arith in ap (λ n. source_arc s n w) e
get_source (suc i) s v (w ∷ ws) d low =
    let e : suc v + i ≡ v + suc i = omega arith in
    get_source i s (suc v) ws d (omega (arith, low)) ∙ ap (λ n. source_arc s n (at_arc ws i)) e

abbrev pub arc_of : ShareProblem → ℕ → AffineArc
arc_of p i = get_or (share_net p).arcs i no_arc

pub arc_flow : (p : ShareProblem) (i : ℕ) → IsShareProblem p → i < length p.ends → arc_of p i ≡ flow_arc (get_or p.ends i (0, 0)) (at_arc p.capacities i)
arc_flow p i h low =
    let full = flow_full p.ends p.capacities h.capacities_full in
    get_or_append_left (flow_arcs p.ends p.capacities) _ no_arc i (omega (arith, full, low)) ∙ get_flow i p.ends p.capacities no_arc h.capacities_full low

pub arc_source : (p : ShareProblem) (v : ℕ) → IsShareProblem p → v < p.nodes → arc_of p (length p.ends + v) ≡ source_arc p.nodes v (at_arc p.weights v)
arc_source p v h low =
    let full = h.weights_full in
    sym (ap (λ n. arc_of p (n + v)) (flow_full p.ends p.capacities h.capacities_full))
    ∙ get_or-append-add (flow_arcs p.ends p.capacities) (source_arcs p.nodes 0 p.weights) v no_arc
    ∙ get_source v p.nodes 0 p.weights no_arc (omega (arith, full, low)) ∙ ap (λ n. source_arc p.nodes n (at_arc p.weights v)) (zero-add v)

pub each_arc : (p : ShareProblem) (P : ℕ → Type 0) → IsShareProblem p → ((i : ℕ) → i < length p.ends → P i) → ((v : ℕ) → v < p.nodes → P (length p.ends + v)) →
    (k : ℕ) → k < length (share_net p).arcs → P k
each_arc p P h flows sources k low = elim (cases_lt k (length p.ends)) [
  | inl less ↦ flows k less
  | inr most ↦
      let full = arcs_full p h in
      let e : length p.ends + (k - length p.ends) ≡ k = omega (arith, most) in
      rw e at (sources (k - length p.ends) (omega (arith, most, low, full)))
]

-- the network at a parameter

abbrev pub at_net : ShareProblem → Fraction → FlowNetwork
at_net p x = network_at (share_net p) x

ends_at : (p : ShareProblem) (x : Fraction) (i : ℕ) → i < length (share_net p).arcs → get_or (at_net p x).ends i (0, 0) ≡ ends_of (arc_of p i)
ends_at p x i low = get_or-map ends_of (share_net p).arcs i no_arc (0, 0) low

capacity_is : (p : ShareProblem) (x : Fraction) (i : ℕ) → i < length (share_net p).arcs → at_arc (at_net p x).capacities i ≡ capacity_at x (arc_of p i)
capacity_is p x i low = get_or-map (capacity_at x) (share_net p).arcs i no_arc (pos 0) low

pub ends_many : (p : ShareProblem) (x : Fraction) → IsShareProblem p → length (at_net p x).ends ≡ length p.ends + p.nodes
ends_many p x h = length-map (share_net p).arcs ends_of ∙ arcs_full p h

pub flow_ends : (p : ShareProblem) (x : Fraction) (i : ℕ) → IsShareProblem p → i < length p.ends → get_or (at_net p x).ends i (0, 0) ≡ get_or p.ends i (0, 0)
flow_ends p x i h low =
    let full = arcs_full p h in
    ends_at p x i (omega (arith, full, low)) ∙ ap ends_of (arc_flow p i h low)

pub source_ends : (p : ShareProblem) (x : Fraction) (v : ℕ) → IsShareProblem p → v < p.nodes → get_or (at_net p x).ends (length p.ends + v) (0, 0) ≡ (p.nodes, v)
source_ends p x v h low =
    let full = arcs_full p h in
    ends_at p x (length p.ends + v) (omega (arith, full, low)) ∙ ap ends_of (arc_source p v h low)

pub flow_capacity : (p : ShareProblem) (x : Fraction) (i : ℕ) → IsShareProblem p → i < length p.ends → at_arc (at_net p x).capacities i ≡ at_arc p.capacities i *ℤ x.q
flow_capacity p x i h low =
    let full = arcs_full p h in
    let none : pos 0 *ℤ x.p ≡ pos 0 = omega (arith, ints) in
    let e = capacity_is p x i (omega (arith, full, low)) ∙ ap (capacity_at x) (arc_flow p i h low) in
    omega (arith, ints, e, none)

pub source_capacity : (p : ShareProblem) (x : Fraction) (v : ℕ) → IsShareProblem p → v < p.nodes →
    at_arc (at_net p x).capacities (length p.ends + v) ≡ at_arc p.weights v *ℤ x.p
source_capacity p x v h low =
    let full = arcs_full p h in
    let none : pos 0 *ℤ x.q ≡ pos 0 = omega (arith, ints) in
    let e = capacity_is p x (length p.ends + v) (omega (arith, full, low)) ∙ ap (capacity_at x) (arc_source p v h low) in
    omega (arith, ints, e, none)

-- sums over both kinds of arcs

sum_append : (test : ℕ × ℕ → Bool) (xs ys : List AffineArc) (numbers : List ℤ) →
    sum_where test (map ends_of (xs ++ ys)) numbers ≡ sum_where test (map ends_of xs) numbers +ℤ sum_where test (map ends_of ys) (drop (length xs) numbers)
sum_append test [] ys numbers = none_before _
sum_append test (x ∷ xs) ys [] = sym (ap (λ n. pos 0 +ℤ n) (sum_where_empty test (map ends_of ys)))
sum_append test (x ∷ xs) ys (n ∷ numbers) = add_before_by (cond (test (ends_of x)) n (pos 0)) _ _ _ (sum_append test xs ys numbers)

flow_sum : (test : ℕ × ℕ → Bool) (ends : List (ℕ × ℕ)) (cs numbers : List ℤ) → length cs ≡ length ends →
    sum_where test (map ends_of (flow_arcs ends cs)) numbers ≡ sum_where test ends numbers
flow_sum test [] cs numbers full = refl
flow_sum test (arc ∷ ends) [] numbers full = absurd (omega (arith, full))
flow_sum test (arc ∷ ends) (c ∷ cs) [] full = refl
flow_sum test (arc ∷ ends) (c ∷ cs) (n ∷ numbers) full = ap (λ s. cond (test arc) n (pos 0) +ℤ s) (flow_sum test ends cs numbers (omega (arith, full)))

skip_step : (b : Bool) (x s : ℤ) → b ≡ false → s ≡ pos 0 → cond b x (pos 0) +ℤ s ≡ pos 0
skip_step true x s e h = cc
skip_step false x s e h = omega (arith, ints, h)

source_out : (s v u : ℕ) (ws numbers : List ℤ) → s ≢ u → sum_where (λ arc. arc.0 == u) (map ends_of (source_arcs s v ws)) numbers ≡ pos 0
source_out s v u [] numbers other = refl
source_out s v u (w ∷ ws) [] other = refl
source_out s v u (w ∷ ws) (n ∷ numbers) other =
    let off : (s == u) ≡ false = grind (arith, nat_tests) in
    skip_step (s == u) n _ off (source_out s (suc v) u ws numbers other)

source_later : (s v u : ℕ) (ws numbers : List ℤ) → u < v → sum_where (λ arc. arc.1 == u) (map ends_of (source_arcs s v ws)) numbers ≡ pos 0
source_later s v u [] numbers low = refl
source_later s v u (w ∷ ws) [] low = refl
source_later s v u (w ∷ ws) (n ∷ numbers) low =
    let off : (v == u) ≡ false = grind (arith, nat_tests) in
    skip_step (v == u) n _ off (source_later s (suc v) u ws numbers (omega (arith, low)))

take_step : (b : Bool) (x s : ℤ) → b ≡ true → s ≡ pos 0 → cond b x (pos 0) +ℤ s ≡ x
take_step true x s e h = omega (arith, ints, h)
take_step false x s e h = cc

pass_step : (b : Bool) (x s t : ℤ) → b ≡ false → s ≡ t → cond b x (pos 0) +ℤ s ≡ t
pass_step true x s t e h = cc
pass_step false x s t e h = omega (arith, ints, h)

source_in : (s v k u : ℕ) (ws numbers : List ℤ) → u ≡ v + k → k < length ws → length numbers ≡ length ws →
    sum_where (λ arc. arc.1 == u) (map ends_of (source_arcs s v ws)) numbers ≡ at_arc numbers k
source_in s v k u [] numbers e low full = absurd (omega (arith, low))
source_in s v k u (w ∷ ws) [] e low full = absurd (omega (arith, full))
source_in s v zero u (w ∷ ws) (n ∷ numbers) e low full =
    let on : (v == u) ≡ true = grind (arith, nat_tests) in
    take_step (v == u) n _ on (source_later s (suc v) u ws numbers (omega (arith, e)))
source_in s v (suc k) u (w ∷ ws) (n ∷ numbers) e low full =
    let off : (v == u) ≡ false = grind (arith, nat_tests) in
    pass_step (v == u) n _ _ off (source_in s (suc v) k u ws numbers (omega (arith, e)) (omega (arith, low)) (omega (arith, full)))

pub node_out : (p : ShareProblem) (x : Fraction) (flow : List ℤ) (v : ℕ) → IsShareProblem p → v < p.nodes →
    sum_out (at_net p x).ends flow v ≡ sum_out p.ends flow v
node_out p x flow v h low =
    let a = sum_append (λ arc. arc.0 == v) (flow_arcs p.ends p.capacities) (source_arcs p.nodes 0 p.weights) flow in
    let b = flow_sum (λ arc. arc.0 == v) p.ends p.capacities flow h.capacities_full in
    let apart : p.nodes ≢ v = λ e. absurd (omega (arith, e, low)) in
    let c = source_out p.nodes 0 v p.weights (drop (length (flow_arcs p.ends p.capacities)) flow) apart in
    omega (arith, ints, a, b, c)

pub node_in : (p : ShareProblem) (x : Fraction) (flow : List ℤ) (v : ℕ) → IsShareProblem p → v < p.nodes → length flow ≡ length p.ends + p.nodes →
    sum_in (at_net p x).ends flow v ≡ sum_in p.ends flow v +ℤ at_arc flow (length p.ends + v)
node_in p x flow v h low full =
    let k = length (flow_arcs p.ends p.capacities) in
    let many = flow_full p.ends p.capacities h.capacities_full in
    let weights = h.weights_full in
    let rest = length-drop k flow in
    let a = sum_append (λ arc. arc.1 == v) (flow_arcs p.ends p.capacities) (source_arcs p.nodes 0 p.weights) flow in
    let b = flow_sum (λ arc. arc.1 == v) p.ends p.capacities flow h.capacities_full in
    let c = source_in p.nodes 0 v v p.weights (drop k flow) (omega arith) (omega (arith, low, weights)) (omega (arith, rest, many, full, weights)) in
    let d = get_or-drop k flow v (pos 0) ∙ ap (λ n. at_arc flow (n + v)) many in
    omega (arith, ints, a, b, c, d)

-- the lines of cuts

abbrev beside : (AffineArc → ℤ) → List Bool → List AffineArc → ℤ
beside number side arcs = sum_where (leaves side) (map ends_of arcs) (map number arcs)

beside_append : (number : AffineArc → ℤ) (side : List Bool) (xs ys : List AffineArc) → beside number side (xs ++ ys) ≡ beside number side xs +ℤ beside number side ys
beside_append number side [] ys = none_before _
beside_append number side (x ∷ xs) ys = add_before_by (cond (leaves side (ends_of x)) (number x) (pos 0)) _ _ _ (beside_append number side xs ys)

zero_step : (b : Bool) (s : ℤ) → s ≡ pos 0 → cond b (pos 0) (pos 0) +ℤ s ≡ pos 0
zero_step true s h = omega (arith, ints, h)
zero_step false s h = omega (arith, ints, h)

flow_a : (side : List Bool) (ends : List (ℕ × ℕ)) (cs : List ℤ) → beside (λ arc. arc.a) side (flow_arcs ends cs) ≡ sum_where (leaves side) ends cs
flow_a side [] cs = refl
flow_a side (arc ∷ ends) [] = refl
flow_a side (arc ∷ ends) (c ∷ cs) = ap (λ s. cond (leaves side arc) c (pos 0) +ℤ s) (flow_a side ends cs)

flow_b : (side : List Bool) (ends : List (ℕ × ℕ)) (cs : List ℤ) → beside (λ arc. arc.b) side (flow_arcs ends cs) ≡ pos 0
flow_b side [] cs = refl
flow_b side (arc ∷ ends) [] = refl
flow_b side (arc ∷ ends) (c ∷ cs) = zero_step (leaves side arc) _ (flow_b side ends cs)

source_a : (side : List Bool) (s v : ℕ) (ws : List ℤ) → beside (λ arc. arc.a) side (source_arcs s v ws) ≡ pos 0
source_a side s v [] = refl
source_a side s v (w ∷ ws) = zero_step (leaves side (s, v)) _ (source_a side s (suc v) ws)

-- the weights of the nodes outside a side, where the first number is that of the first node
abbrev pub outer_weight : List Bool → ℕ → List ℤ → ℤ
outer_weight side v [] = pos 0
outer_weight side v (w ∷ ws) = cond (has side v) (pos 0) w +ℤ outer_weight side (suc v) ws

outer_step : (s b : Bool) (w x y : ℤ) → s ≡ true → x ≡ y → cond (s && not b) w (pos 0) +ℤ x ≡ cond b (pos 0) w +ℤ y
outer_step true true w x y e h = omega (arith, ints, h)
outer_step true false w x y e h = omega (arith, ints, h)
outer_step false b w x y e h = cc

source_b : (side : List Bool) (s v : ℕ) (ws : List ℤ) → has side s ≡ true → beside (λ arc. arc.b) side (source_arcs s v ws) ≡ outer_weight side v ws
source_b side s v [] h = refl
source_b side s v (w ∷ ws) h = outer_step (has side s) (has side v) w _ _ h (source_b side s (suc v) ws h)

pub cut_constant : (p : ShareProblem) (side : List Bool) → cut_a (share_net p) side ≡ sum_where (leaves side) p.ends p.capacities
cut_constant p side =
    let e = beside_append (λ arc. arc.a) side (flow_arcs p.ends p.capacities) (source_arcs p.nodes 0 p.weights) in
    let f = flow_a side p.ends p.capacities in
    let g = source_a side p.nodes 0 p.weights in
    omega (arith, ints, e, f, g)

pub cut_slope : (p : ShareProblem) (side : List Bool) → has side p.nodes ≡ true → cut_b (share_net p) side ≡ outer_weight side 0 p.weights
cut_slope p side h =
    let e = beside_append (λ arc. arc.b) side (flow_arcs p.ends p.capacities) (source_arcs p.nodes 0 p.weights) in
    let f = flow_b side p.ends p.capacities in
    let g = source_b side p.nodes 0 p.weights h in
    omega (arith, ints, e, f, g)

-- sides that differ at nodes without weight alone
outer_same_step : (b c : Bool) (w x y : ℤ) → (b ≡ c) ⊎ (w ≡ pos 0) → x ≡ y → cond b (pos 0) w +ℤ x ≡ cond c (pos 0) w +ℤ y
outer_same_step true true w x y d h = omega (arith, ints, h)
outer_same_step true false w x y d h = elim d [ inl e ↦ absurd (false≢true (sym e)) | inr e ↦ omega (arith, ints, h, e) ]
outer_same_step false true w x y d h = elim d [ inl e ↦ absurd (false≢true e) | inr e ↦ omega (arith, ints, h, e) ]
outer_same_step false false w x y d h = omega (arith, ints, h)

pub outer_same : (s t : List Bool) (v : ℕ) (ws : List ℤ) → ((k : ℕ) → k < length ws → (has s (v + k) ≡ has t (v + k)) ⊎ (at_arc ws k ≡ pos 0)) →
    outer_weight s v ws ≡ outer_weight t v ws
outer_same s t v [] h = refl
outer_same s t v (w ∷ ws) h =
    outer_same_step (has s v) (has t v) w _ _ (let e : v + 0 ≡ v = omega arith in rw e at (h 0 (omega arith)))
    (outer_same s t (suc v) ws (λ k low. let e : v + suc k ≡ suc v + k = omega arith in rw e at (h (suc k) (omega (arith, low)))))

-- where all weights outside are 0 in all, each is
pub outer_low : (side : List Bool) (v : ℕ) (ws : List ℤ) → ((k : ℕ) → k < length ws → pos 0 ≤ℤ at_arc ws k) → pos 0 ≤ℤ outer_weight side v ws
outer_low side v [] h = omega (arith, ints)
outer_low side v (w ∷ ws) h = low_step (has side v) w _ (h 0 (omega arith)) (outer_low side (suc v) ws (λ k low. h (suc k) (omega (arith, low))))
  where
    low_step : (b : Bool) (w x : ℤ) → pos 0 ≤ℤ w → pos 0 ≤ℤ x → pos 0 ≤ℤ (cond b (pos 0) w +ℤ x)
    low_step true w x h l = omega (arith, ints, h, l)
    low_step false w x h l = omega (arith, ints, h, l)

first_none : (b : Bool) (w x : ℤ) → pos 0 ≤ℤ w → pos 0 ≤ℤ x → (cond b (pos 0) w +ℤ x) ≤ℤ pos 0 → b ≡ false → w ≡ pos 0
first_none true w x h l t e = cc
first_none false w x h l t e = omega (arith, ints, h, l, t)

rest_none : (b : Bool) (w x : ℤ) → pos 0 ≤ℤ w → (cond b (pos 0) w +ℤ x) ≤ℤ pos 0 → x ≤ℤ pos 0
rest_none true w x h t = omega (arith, ints, h, t)
rest_none false w x h t = omega (arith, ints, h, t)

pub outer_none : (side : List Bool) (v : ℕ) (ws : List ℤ) → ((k : ℕ) → k < length ws → pos 0 ≤ℤ at_arc ws k) → outer_weight side v ws ≤ℤ pos 0 →
    (k : ℕ) → k < length ws → has side (v + k) ≡ false → at_arc ws k ≡ pos 0
outer_none side v [] h t k low out = absurd (omega (arith, low))
outer_none side v (w ∷ ws) h t zero low out =
    let e : v + 0 ≡ v = omega arith in
    first_none (has side v) w _ (h 0 (omega arith)) (outer_low side (suc v) ws (λ k less. h (suc k) (omega (arith, less)))) t (rw e at out)
outer_none side v (w ∷ ws) h t (suc k) low out =
    let e : v + suc k ≡ suc v + k = omega arith in
    outer_none side (suc v) ws (λ j less. h (suc j) (omega (arith, less))) (rest_none (has side v) w _ (h 0 (omega arith)) t) k (omega (arith, low)) (rw e at out)
