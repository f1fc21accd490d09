-- Sums over the nodes of a side, and over the arcs that cross it.
use Rattle.std.proofs.Common.{◌≡◌, ◌≢◌, ℕ, zero, suc, ◌<◌, ◌≤◌, List, [], length, get_or, refl, Bool, true, false, cond, ltb, arith, ap, sym, ◌∙◌, inl, inr}
use Rattle.std.specs.Prelude.{ℤ, ◌+ℤ◌, ◌-ℤ◌, ◌*ℤ◌, ◌≤ℤ◌, ◌<ℤ◌, pos, map, ◌⊎◌}
use Rattle.std.proofs.lemmas.Int.{ints, by_lt_z}
use Rattle.std.proofs.lemmas.Bool.{cases_Bool, cases_eq, both_ways}
use Rattle.std.proofs.lemmas.Bool.Decides.{nat_tests}
use Rattle.std.proofs.lemmas.List.{length-map, get_or-map}
use Rattle.pf_model.specs.Cut.{FlowNetwork, has, at_arc, leaves, enters, sum_where}
use Rattle.pf_model.specs.Flow.{sum_out, sum_in}
use Rattle.pf_model.proofs.Integers.{mul_add}
use Rattle.pf_model.proofs.Sums.{Passes, sum_where_most, sum_where_empty}
use Rattle.pf_model.proofs.Balance.{excess, excess_below, more_excess, none_below_zero, across_is_excess}
use Rattle.pf_model.proofs.Affine.{sum_where_scaled}
use Rattle.pf_share.specs.Problem.{ShareProblem, IsCarried}
use Rattle.pf_share.specs.Grouped.{tabled}
use Rattle.pf_model.proofs.Facts.{none_times}

-- a list of the first values of a function
pub length_tabled : {X : Type 0} (f : ℕ → X) (n : ℕ) → length (tabled f n) ≡ n
length_tabled f zero = refl
length_tabled f (suc n) = ap suc (length_tabled (λ v. f (suc v)) n)

pub at_tabled : {X : Type 0} (f : ℕ → X) (d : X) (n v : ℕ) → v < n → get_or (tabled f n) v d ≡ f v
at_tabled f d zero v low = absurd (omega (arith, low))
at_tabled f d (suc n) zero low = refl
at_tabled f d (suc n) (suc v) low = at_tabled (λ u. f (suc u)) d n v (omega (arith, low))

-- each number times k
pub at_times : (k : ℤ) (numbers : List ℤ) (i : ℕ) → i < length numbers → at_arc (map (λ c. k *ℤ c) numbers) i ≡ k *ℤ at_arc numbers i
at_times k numbers i low = get_or-map (λ c. k *ℤ c) numbers i (pos 0) (pos 0) low

pub length_times : (k : ℤ) (numbers : List ℤ) → length (map (λ c. k *ℤ c) numbers) ≡ length numbers
length_times k numbers = length-map numbers (λ c. k *ℤ c)

-- where the numbers beside passing arcs are k times the others, so is the sum
pub sum_times : (test : ℕ × ℕ → Bool) (arcs : List (ℕ × ℕ)) (xs ys : List ℤ) (k : ℤ) → length ys ≡ length arcs →
    ((i : ℕ) → Passes test arcs i → at_arc xs i ≡ k *ℤ at_arc ys i) → sum_where test arcs xs ≡ k *ℤ sum_where test arcs ys
sum_times test arcs xs ys k full h =
    let there : (i : ℕ) → Passes test arcs i → at_arc (map (λ c. k *ℤ c) ys) i ≡ k *ℤ at_arc ys i = λ i e.
    at_times k ys i (let low = e.in_range in omega (arith, low, full)) in
    let up = sum_where_most test arcs xs (map (λ c. k *ℤ c) ys) (λ i e. let a = h i e in let b = there i e in omega (arith, ints, a, b)) in
    let down = sum_where_most test arcs (map (λ c. k *ℤ c) ys) xs (λ i e. let a = h i e in let b = there i e in omega (arith, ints, a, b)) in
    let same = sum_where_scaled test k arcs ys in
    omega (arith, ints, up, down, same)

pub sum_nothing : (test : ℕ × ℕ → Bool) (arcs : List (ℕ × ℕ)) (xs : List ℤ) →
    ((i : ℕ) → Passes test arcs i → at_arc xs i ≡ pos 0) → sum_where test arcs xs ≡ pos 0
sum_nothing test arcs xs h =
    let up = sum_where_most test arcs xs [] (λ i e. let a = h i e in omega (arith, ints, a)) in
    let down = sum_where_most test arcs [] xs (λ i e. let a = h i e in omega (arith, ints, a)) in
    let none = sum_where_empty test arcs in
    omega (arith, ints, up, down, none)

-- where the numbers beside passing arcs are the same, so is the sum
pub sum_equal : (test : ℕ × ℕ → Bool) (arcs : List (ℕ × ℕ)) (xs ys : List ℤ) →
    ((i : ℕ) → Passes test arcs i → at_arc xs i ≡ at_arc ys i) → sum_where test arcs xs ≡ sum_where test arcs ys
sum_equal test arcs xs ys h =
    let up = sum_where_most test arcs xs ys (λ i e. let a = h i e in omega (arith, ints, a)) in
    let down = sum_where_most test arcs ys xs (λ i e. let a = h i e in omega (arith, ints, a)) in
    omega (arith, ints, up, down)

-- the sum over the nodes of a side that are below n
abbrev pub sum_side : (ℕ → ℤ) → List Bool → ℕ → ℤ
sum_side f side zero = pos 0
sum_side f side (suc n) = sum_side f side n +ℤ cond (has side n) (f n) (pos 0)

most_step : (b : Bool) (s t x y : ℤ) → s ≤ℤ t → (b ≡ true → x ≤ℤ y) → (s +ℤ cond b x (pos 0)) ≤ℤ (t +ℤ cond b y (pos 0))
most_step true s t x y h k = let e : x ≤ℤ y = k refl in omega (arith, ints, h, e)
most_step false s t x y h k = omega (arith, ints, h)

pub side_most : (f g : ℕ → ℤ) (side : List Bool) (n : ℕ) → ((v : ℕ) → v < n → has side v ≡ true → f v ≤ℤ g v) → sum_side f side n ≤ℤ sum_side g side n
side_most f g side zero h = omega (arith, ints)
side_most f g side (suc n) h =
    most_step (has side n) _ _ (f n) (g n) (side_most f g side n (λ v low. h v (omega (arith, low)))) (h n (omega arith))

less_here : (b : Bool) (s t x y : ℤ) → s ≤ℤ t → b ≡ true → x <ℤ y → (s +ℤ cond b x (pos 0)) <ℤ (t +ℤ cond b y (pos 0))
less_here true s t x y h e k = omega (arith, ints, h, k)
less_here false s t x y h e k = cc

less_before : (b : Bool) (s t x y : ℤ) → s <ℤ t → (b ≡ true → x ≤ℤ y) → (s +ℤ cond b x (pos 0)) <ℤ (t +ℤ cond b y (pos 0))
less_before true s t x y h k = let e : x ≤ℤ y = k refl in omega (arith, ints, h, e)
less_before false s t x y h k = omega (arith, ints, h)

pub side_less : (f g : ℕ → ℤ) (side : List Bool) (n i : ℕ) → ((v : ℕ) → v < n → has side v ≡ true → f v ≤ℤ g v) → i < n → has side i ≡ true →
    f i <ℤ g i → sum_side f side n <ℤ sum_side g side n
side_less f g side zero i h low held less = absurd (omega (arith, low))
side_less f g side (suc n) i h low held less = elim (cases_eq i n) [
  | inl same ↦
      less_here (has side n) _ _ (f n) (g n) (side_most f g side n (λ v small. h v (omega (arith, small)))) (rw same at held) (rw same at less)
  | inr other ↦
      less_before (has side n) _ _ (f n) (g n)
      (side_less f g side n i (λ v small. h v (omega (arith, small))) (omega (arith, low, other)) held less) (h n (omega arith))
]

times_step : (b : Bool) (k s t x y : ℤ) → s ≡ k *ℤ t → (b ≡ true → x ≡ k *ℤ y) → s +ℤ cond b x (pos 0) ≡ k *ℤ (t +ℤ cond b y (pos 0))
times_step true k s t x y h e = let here : x ≡ k *ℤ y = e refl in omega (arith, ints, h, here, mul_add k t y)
times_step false k s t x y h e =
    let none : k *ℤ pos 0 ≡ pos 0 = omega (arith, ints) in
    omega (arith, ints, h, none, mul_add k t (pos 0))

pub side_times : (f g : ℕ → ℤ) (k : ℤ) (side : List Bool) (n : ℕ) → ((v : ℕ) → v < n → f v ≡ k *ℤ g v) → sum_side f side n ≡ k *ℤ sum_side g side n
side_times f g k side zero h = none_times k
side_times f g k side (suc n) h =
    times_step (has side n) k _ _ (f n) (g n) (side_times f g k side n (λ v low. h v (omega (arith, low)))) (λ e. h n (omega arith))

-- either no node of the side has less in the second list, or here is one that has
pub record IsLess (f g : ℕ → ℤ) (side : List Bool) (n : ℕ) : Type 0 where
  pub node : ℕ
  pub there : node < n
  pub held : has side node ≡ true
  pub less : g node <ℤ f node

pub find_less : (f g : ℕ → ℤ) (side : List Bool) (n : ℕ) → ((v : ℕ) → v < n → has side v ≡ true → f v ≤ℤ g v) ⊎ IsLess f g side n
find_less f g side zero = inl (λ v low held. absurd (omega (arith, low)))
find_less f g side (suc n) = elim (find_less f g side n) [
  | inr found ↦ inr (record { node = found.node; there = (let low = found.there in omega (arith, low)); held = found.held; less = found.less })
  | inl all ↦ elim (cases_Bool (has side n)) [
    | inr out ↦ inl (λ v low held. elim (cases_eq v n) [
      | inl same ↦ absurd (both_ways _ out (rw same at held))
      | inr other ↦ all v (omega (arith, low, other)) held
    ])
    | inl here ↦ by_lt_z (g n) (f n)
        (λ less. inr (record { node = n; there = omega arith; held = here; less = less }))
        (λ fine. inl (λ v low held. elim (cases_eq v n) [
          | inl same ↦ rw same fine
          | inr other ↦ all v (omega (arith, low, other)) held
        ]))
  ]
]

-- what the nodes of a side get, where the sink is not among them, is what leaves it less what enters it
abbrev pub network_of_sharing : ShareProblem → FlowNetwork
network_of_sharing p = record { nodes = p.nodes; source = p.sink; sink = p.sink; ends = p.ends; capacities = p.capacities }

begins_none : (p : ShareProblem) (flow : List ℤ) (side : List Bool) → excess_below (network_of_sharing p) flow side 0 ≡ pos 0
begins_none p flow side =
    let e = none_below_zero (network_of_sharing p) flow side in
    let off : ltb p.sink 0 ≡ false = grind (arith, nat_tests) in
    e ∙ ap (λ b. cond b (sum_out p.ends flow p.sink -ℤ sum_in p.ends flow p.sink) (pos 0)) off

node_step : (b : Bool) (s t x y : ℤ) → s ≡ t → (b ≡ true → x ≡ y) → s +ℤ cond b x (pos 0) ≡ t +ℤ cond b y (pos 0)
node_step true s t x y h e = let here : x ≡ y = e refl in omega (arith, ints, h, here)
node_step false s t x y h e = omega (arith, ints, h)

pub side_excess : (p : ShareProblem) (u : ℤ) (shares flow : List ℤ) (side : List Bool) → IsCarried p u shares flow → has side p.sink ≡ false → (n : ℕ) → n ≤ p.nodes →
    excess_below (network_of_sharing p) flow side n ≡ sum_side (at_arc shares) side n
side_excess p u shares flow side c out zero low = begins_none p flow side
side_excess p u shares flow side c out (suc n) low =
    more_excess (network_of_sharing p) flow side n (has side n) refl
    ∙ node_step (has side n) _ _ (excess (network_of_sharing p) flow n) (at_arc shares n) (side_excess p u shares flow side c out n (omega (arith, low)))
    (λ held.
    let apart : n ≢ p.sink = λ e. both_ways _ out (rw e at held) in
    let kept = c.kept n (omega (arith, low)) apart in
    omega (arith, ints, kept))

pub side_across : (p : ShareProblem) (u : ℤ) (shares flow : List ℤ) (side : List Bool) → IsCarried p u shares flow → has side p.sink ≡ false → length side ≡ p.nodes →
    sum_side (at_arc shares) side p.nodes ≡ sum_where (leaves side) p.ends flow -ℤ sum_where (enters side) p.ends flow
side_across p u shares flow side c out full =
    sym (side_excess p u shares flow side c out p.nodes (omega arith)) ∙ sym (across_is_excess (network_of_sharing p) flow side full)
