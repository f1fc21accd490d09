-- A least cut crosses no arc of a need.
use Rattle.std.proofs.Common.{◌≡◌, ℕ, zero, suc, ◌*◌, ◌^◌, ◌<◌, ◌≤◌, List, [], ◌∷◌, length, get_or, replicate, refl, Bool, true, false, cond, arith, ap, sym, ◌∙◌, inl, inr}
use Rattle.std.specs.Prelude.{◌⊎◌, ℤ, ◌+ℤ◌, ◌-ℤ◌, ◌*ℤ◌, ◌≤ℤ◌, ◌<ℤ◌, pos, neg_ℤ, map}
use Rattle.std.proofs.lemmas.Int.{ints, by_lt_z}
use Rattle.std.proofs.lemmas.Bool.{cases_Bool, cases_eq, both_ways}
use Rattle.std.proofs.lemmas.List.{length-replicate}
use Rattle.pf_model.specs.Fraction.{Fraction}
use Rattle.pf_model.specs.Cut.{has, at_arc, leaves, capacity, IsCut, IsLeast, IsSmallestLeast}
use Rattle.pf_model.specs.Network.{IsNetworkCut, IsInInterval, ends_of, network_at, capacity_at}
use Rattle.pf_model.proofs.Integers.{mul_assoc, mul_comm, mul_add, mul_nonneg, mul_most}
use Rattle.pf_model.proofs.Search.{has_none}
use Rattle.pf_model.proofs.Balance.{inside}
use Rattle.pf_closure.specs.Problem.{ClosureProblem, IsClosureProblem, IsClosure, IsNonempty, needing_at, needed_at, sum_of_side, cost_of, weight_of, IsBoundedProblem, sum_of_all}
use Rattle.pf_closure.specs.Reduction.{closure_net, item_arcs, need_arc, source_arc, sink_arc, side_of, items_of, behind_first, sink_node}
use Rattle.pf_closure.proofs.NetLemmas.{sum_beside, sum_beside_append, has_side, closure_cut, closure_capacity}
use Rattle.pf_model.proofs.Duality.{leaves_by}
use Rattle.pf_model.proofs.Facts.{last_apart, length_front, off_step}

first_apart : (p : ClosureProblem) (side : List Bool) → length side ≡ suc (suc (length p.costs)) → has side 0 ≡ true → has side (suc (length p.costs)) ≡ false →
    side ≡ side_of (items_of p side)
first_apart p [] e h l = absurd (omega arith)
first_apart p (b ∷ side) e h l =
    ap (λ c. c ∷ side) h ∙ ap (λ xs. true ∷ xs) (last_apart side (length p.costs) (omega arith) l)

pub cut_is_side : (p : ClosureProblem) (side : List Bool) → IsNetworkCut (closure_net p) side → side ≡ side_of (items_of p side)
cut_is_side p side c = first_apart p side c.full c.with_source c.without_sink

behind_length : (side : List Bool) (n : ℕ) → length side ≡ suc n → length (behind_first side) ≡ n
behind_length [] n e = absurd (omega arith)
behind_length (b ∷ side) n e = omega arith

pub items_full : (p : ClosureProblem) (side : List Bool) → IsNetworkCut (closure_net p) side → length (items_of p side) ≡ length p.costs
items_full p side c =
    let e = behind_length side (suc (length p.costs)) c.full in
    length_front (behind_first side) (length p.costs) (omega (arith, e))

-- capacities are not below 0
pub record IsAt (p : ClosureProblem) (x : Fraction) : Type 0 where
  pub unit : pos 1 ≤ℤ x.q
  pub low : pos 0 ≤ℤ ((pos 1000001 *ℤ x.q) +ℤ x.p)
  pub high : x.p ≤ℤ (pos 1000001 *ℤ x.q)

pub is_at : (p : ClosureProblem) (x : Fraction) → IsInInterval (closure_net p) x → IsAt p x
is_at p x inside =
    let l = inside.low in
    let h = inside.high in
    let one : x.p *ℤ pos 1 ≡ x.p = omega (arith, ints) in
    let swapped = mul_comm (neg_ℤ (pos 1000001)) x.q in
    record { unit = inside.parameter; low = omega (arith, ints, l, one); high = omega (arith, ints, h, one) }

source_low : (p : ClosureProblem) (x : Fraction) (i : ℕ) (w : ℤ) → IsAt p x → pos 1 ≤ℤ w → pos 0 ≤ℤ capacity_at x (source_arc i w)
source_low p x i w a h =
    let e = mul_nonneg w ((pos 1000001 *ℤ x.q) +ℤ x.p) (omega (arith, ints, h)) a.low in
    let f = mul_add w (pos 1000001 *ℤ x.q) x.p in
    let g : w *ℤ (pos 1000001 *ℤ x.q) ≡ (pos 1000001 *ℤ w) *ℤ x.q =
    sym (mul_assoc w (pos 1000001) x.q) ∙ ap (λ n. n *ℤ x.q) (mul_comm w (pos 1000001)) in
    omega (arith, ints, e, f, g)

sink_low : (p : ClosureProblem) (x : Fraction) (sink i : ℕ) (c w : ℤ) → IsAt p x → pos 1 ≤ℤ w → neg_ℤ (pos 1000000) ≤ℤ c → pos 0 ≤ℤ capacity_at x (sink_arc sink i c w)
sink_low p x sink i c w a h l =
    let unit = a.unit in
    let e = mul_nonneg ((pos 1000001 *ℤ w) +ℤ c) x.q (omega (arith, ints, h, l)) (omega (arith, ints, unit)) in
    let none : pos 0 *ℤ x.p ≡ pos 0 = omega (arith, ints) in
    omega (arith, ints, e, none)

low_step : (b : Bool) (x rest : ℤ) → pos 0 ≤ℤ x → pos 0 ≤ℤ rest → pos 0 ≤ℤ (cond b x (pos 0) +ℤ rest)
low_step true x rest h l = omega (arith, ints)
low_step false x rest h l = omega (arith, ints)

items_low : (p : ClosureProblem) (x : Fraction) (side : List Bool) (sink i : ℕ) (costs weights : List ℤ) → IsAt p x →
    ((k : ℕ) → k < length costs → neg_ℤ (pos 1000000) ≤ℤ at_arc costs k) → ((k : ℕ) → k < length weights → pos 1 ≤ℤ at_arc weights k) →
    pos 0 ≤ℤ sum_beside (capacity_at x) side (item_arcs sink i costs weights)
items_low p x side sink i [] weights a l h = omega (arith, ints)
items_low p x side sink i (c ∷ costs) [] a l h = omega (arith, ints)
items_low p x side sink i (c ∷ costs) (w ∷ weights) a l h =
    low_step (leaves side (ends_of (source_arc i w))) _ _ (source_low p x i w a (h 0 (omega arith)))
    (low_step (leaves side (ends_of (sink_arc sink i c w))) _ _ (sink_low p x sink i c w a (h 0 (omega arith)) (l 0 (omega arith)))
    (items_low p x side sink (suc i) costs weights a (λ k low. l (suc k) (omega (arith, low))) (λ k low. h (suc k) (omega (arith, low)))))

-- an arc of a need that leaves the side
abbrev wide : Fraction → ℤ
wide x = (pos (2 ^ 56) *ℤ x.q) +ℤ (pos 0 *ℤ x.p)

wide_low : (p : ClosureProblem) (x : Fraction) → IsAt p x → pos (2 ^ 56) ≤ℤ wide x
wide_low p x a =
    let unit = a.unit in
    let none : pos 0 *ℤ x.p ≡ pos 0 = omega (arith, ints) in
    omega (arith, ints, unit, none)

needs_low : (p : ClosureProblem) (x : Fraction) (side : List Bool) (needs : List (ℕ × ℕ)) → IsAt p x → pos 0 ≤ℤ sum_beside (capacity_at x) side (map need_arc needs)
needs_low p x side [] a = omega (arith, ints)
needs_low p x side (need ∷ needs) a =
    let w = wide_low p x a in
    low_step (leaves side (ends_of (need_arc need))) (wide x) _ (omega (arith, ints, w)) (needs_low p x side needs a)

cross_here : (b : Bool) (x rest : ℤ) → b ≡ true → pos 0 ≤ℤ rest → x ≤ℤ (cond b x (pos 0) +ℤ rest)
cross_here true x rest e h = omega (arith, ints)
cross_here false x rest e h = cc

cross_later : (b : Bool) (x rest y : ℤ) → pos 0 ≤ℤ x → y ≤ℤ rest → y ≤ℤ (cond b x (pos 0) +ℤ rest)
cross_later true x rest y h l = omega (arith, ints)
cross_later false x rest y h l = omega (arith, ints)

needs_cross : (p : ClosureProblem) (x : Fraction) (side : List Bool) (needs : List (ℕ × ℕ)) (k : ℕ) → IsAt p x → k < length needs →
    leaves side (ends_of (need_arc (get_or needs k (0, 0)))) ≡ true → wide x ≤ℤ sum_beside (capacity_at x) side (map need_arc needs)
needs_cross p x side [] k a low h = absurd (omega arith)
needs_cross p x side (need ∷ needs) zero a low h =
    cross_here (leaves side (ends_of (need_arc need))) (wide x) _ h (needs_low p x side needs a)
needs_cross p x side (need ∷ needs) (suc k) a low h =
    let w = wide_low p x a in
    cross_later (leaves side (ends_of (need_arc need))) (wide x) _ (wide x) (omega (arith, ints, w)) (needs_cross p x side needs k a (omega arith) h)

-- the source alone is below 2 ^ 56
total_high : (weights : List ℤ) → ((k : ℕ) → k < length weights → at_arc weights k ≤ℤ pos 1000000) → sum_of_all weights ≤ℤ pos (length weights * 1000000)
total_high [] h = omega (arith, ints)
total_high (w ∷ weights) h =
    let here = h 0 (omega arith) in
    let rest = total_high weights (λ k low. h (suc k) (omega (arith, low))) in
    omega (arith, ints, here, rest)

total_low : (weights : List ℤ) → ((k : ℕ) → k < length weights → pos 1 ≤ℤ at_arc weights k) → pos 0 ≤ℤ sum_of_all weights
total_low [] h = omega (arith, ints)
total_low (w ∷ weights) h =
    let here = h 0 (omega arith) in
    let rest = total_low weights (λ k low. h (suc k) (omega (arith, low))) in
    omega (arith, ints, here, rest)

alone_bound : (q p w : ℤ) → pos 1 ≤ℤ q → p ≤ℤ (pos 1000001 *ℤ q) → pos 0 ≤ℤ w → w ≤ℤ pos 1000000000 →
    (((pos 1000001 *ℤ q) +ℤ p) *ℤ w) <ℤ (pos (2 ^ 56) *ℤ q)
alone_bound q p w unit high low most =
    let e = mul_most w ((pos 1000001 *ℤ q) +ℤ p) (pos 2000002 *ℤ q) low (omega (arith, ints, high)) in
    let f = mul_most (pos 2000002 *ℤ q) w (pos 1000000000) (omega (arith, ints, unit)) most in
    let g : (pos 2000002 *ℤ q) *ℤ pos 1000000000 ≡ pos 2000002000000000 *ℤ q = omega (arith, ints) in
    omega (arith, ints, e, f, g, mul_comm w ((pos 1000001 *ℤ q) +ℤ p), mul_comm w (pos 2000002 *ℤ q), unit)

-- no item
abbrev pub none_of : ClosureProblem → List Bool
none_of p = replicate (length p.costs) false

sum_none : (n : ℕ) (xs : List ℤ) → sum_of_side (replicate n false) xs ≡ pos 0
sum_none zero xs = refl
sum_none (suc n) [] = refl
sum_none (suc n) (x ∷ xs) = let rest = sum_none n xs in omega (arith, ints, rest)

pub none_closed : (p : ClosureProblem) → IsClosure p (none_of p)
none_closed p = record {
  full = length-replicate (length p.costs) false;
  closed = λ k low h. absurd (both_ways _ (has_none (length p.costs) (needing_at p k)) h);
}

pub alone_capacity : (p : ClosureProblem) (x : Fraction) → IsClosureProblem p →
    capacity (network_at (closure_net p) x) (side_of (none_of p)) ≡ ((pos 1000001 *ℤ x.q) +ℤ x.p) *ℤ sum_of_all p.weights
alone_capacity p x problem =
    let e = closure_capacity p (none_of p) x problem (none_closed p) in
    let f = ap (λ n. x.q *ℤ n) (sum_none (length p.costs) p.costs) in
    let g = ap (λ n. x.p *ℤ n) (sum_none (length p.costs) p.weights) in
    let zero_times : (k : ℤ) → k *ℤ pos 0 ≡ pos 0 = λ k. omega (arith, ints) in
    omega (arith, ints, e, f, g, zero_times x.q, zero_times x.p)

at_cut : (p : ClosureProblem) (x : Fraction) (side : List Bool) → IsNetworkCut (closure_net p) side → IsCut (network_at (closure_net p) x) side
at_cut p x side c = record { full = c.full; with_source = c.with_source; without_sink = c.without_sink }

pub net_cut : (p : ClosureProblem) (x : Fraction) (side : List Bool) → IsCut (network_at (closure_net p) x) side → IsNetworkCut (closure_net p) side
net_cut p x side c = record { full = c.full; with_source = c.with_source; without_sink = c.without_sink }

pub alone_cut : (p : ClosureProblem) (x : Fraction) → IsCut (network_at (closure_net p) x) (side_of (none_of p))
alone_cut p x = at_cut p x (side_of (none_of p)) (closure_cut p (none_of p) (length-replicate (length p.costs) false))

alone_low : (p : ClosureProblem) (x : Fraction) → IsBoundedProblem p → IsAt p x → capacity (network_at (closure_net p) x) (side_of (none_of p)) <ℤ wide x
alone_low p x items a =
    let problem = items.problem in
    let full = problem.full in
    let most = total_high p.weights (λ k low. items.weight_high k (omega (arith, low, full))) in
    let least = total_low p.weights (λ k low. problem.heavy k (omega (arith, low, full))) in
    let few = items.few_items in
    let b = alone_bound x.q x.p (sum_of_all p.weights) a.unit a.high least (omega (arith, ints, most, full, few)) in
    let none : pos 0 *ℤ x.p ≡ pos 0 = omega (arith, ints) in
    omega (arith, ints, alone_capacity p x problem, b, none)

crossing_low : (p : ClosureProblem) (x : Fraction) (side : List Bool) (k : ℕ) → IsBoundedProblem p → IsAt p x → k < length p.needs →
    leaves side (ends_of (need_arc (get_or p.needs k (0, 0)))) ≡ true → wide x ≤ℤ capacity (network_at (closure_net p) x) side
crossing_low p x side k items a low h =
    let full = items.problem.full in
    let split = sum_beside_append (capacity_at x) side (item_arcs (sink_node p) 0 p.costs p.weights) (map need_arc p.needs) in
    let first = items_low p x side (sink_node p) 0 p.costs p.weights a items.cost_low (λ j l. items.problem.heavy j (omega (arith, l, full))) in
    let second = needs_cross p x side p.needs k a low h in
    omega (arith, ints, split, first, second)

-- the arc of a need that leaves a set
record IsCrossed (p : ClosureProblem) (set : List Bool) : Type 0 where
  need : ℕ
  low : need < length p.needs
  from : has set (needing_at p need) ≡ true
  to : has set (needed_at p need) ≡ false

-- the first needs stay in the set
abbrev AreKept : ClosureProblem → List Bool → ℕ → Type 0
AreKept p set count = (k : ℕ) → k < count → has set (needing_at p k) ≡ true → has set (needed_at p k) ≡ true

kept_or_crossed : (p : ClosureProblem) (set : List Bool) (count : ℕ) → count ≤ length p.needs → AreKept p set count ⊎ IsCrossed p set
kept_or_crossed p set zero few = inl (λ k low h. absurd (omega (arith, low)))
kept_or_crossed p set (suc count) few = elim (kept_or_crossed p set count (omega (arith, few))) [
  | inr found ↦ inr found
  | inl kept ↦ elim (cases_Bool (has set (needed_at p count))) [
    | inl held ↦ inl (λ k low h. elim (cases_eq k count) [ inl same ↦ rw same held | inr other ↦ kept k (omega (arith, low, other)) h ])
    | inr out ↦ elim (cases_Bool (has set (needing_at p count))) [
      | inl held ↦ inr (record { need = count; low = omega (arith, few); from = held; to = out })
      | inr off ↦ inl (λ k low h. elim (cases_eq k count) [
        | inl same ↦ absurd (both_ways _ off (sym (ap (λ j. has set (needing_at p j)) same) ∙ h))
        | inr other ↦ kept k (omega (arith, low, other)) h
      ])
    ]
  ]
]

pub open_is_dear : (p : ClosureProblem) (x : Fraction) (side : List Bool) → IsBoundedProblem p → IsInInterval (closure_net p) x →
    IsNetworkCut (closure_net p) side → (IsClosure p (items_of p side) → ⊥) → (pos (2 ^ 56) *ℤ x.q) ≤ℤ capacity (network_at (closure_net p) x) side
open_is_dear p x side items inside cut none =
    let full = items_full p side cut in
    let same : (i : ℕ) → i < length p.costs → has side (suc i) ≡ has (items_of p side) i = λ i low.
    ap (λ l. has l (suc i)) (cut_is_side p side cut) ∙ has_side (items_of p side) i (omega (arith, low, full)) in
    elim (kept_or_crossed p (items_of p side) (length p.needs) (omega arith)) [
      | inl kept ↦ absurd (none (record { full = full; closed = kept }))
      | inr c ↦
          let much = crossing_low p x side c.need items (is_at p x inside) c.low
          (leaves_by side _ (same _ (items.problem.needing c.need c.low) ∙ c.from) (same _ (items.problem.needed c.need c.low) ∙ c.to)) in
          let zero_times : pos 0 *ℤ x.p ≡ pos 0 = omega (arith, ints) in
          omega (arith, ints, much, zero_times)
    ]

pub least_is_closure : (p : ClosureProblem) (x : Fraction) (side : List Bool) → IsBoundedProblem p → IsInInterval (closure_net p) x →
    IsLeast (network_at (closure_net p) x) side → IsClosure p (items_of p side)
least_is_closure p x side items inside least =
    let cut = net_cut p x side least.cut in
    let a = is_at p x inside in
    let full = items_full p side cut in
    let same : (i : ℕ) → i < length p.costs → has side (suc i) ≡ has (items_of p side) i = λ i low.
    ap (λ l. has l (suc i)) (cut_is_side p side cut) ∙ has_side (items_of p side) i (omega (arith, low, full)) in
    record {
      full = full;
      closed = λ k low h. elim (cases_Bool (has (items_of p side) (needed_at p k))) [
        | inl held ↦ held
        | inr off ↦ absurd
            (let most = least.least (side_of (none_of p)) (alone_cut p x) in
            let much = crossing_low p x side k items a low
            (leaves_by side _ (same _ (items.problem.needing k low) ∙ h) (same _ (items.problem.needed k low) ∙ off)) in
            let little = alone_low p x items a in
            omega (arith, ints, most, much, little))
      ];
    }

-- the ratio of the closure of a least cut is at most the parameter
capacity_at_least : (p : ClosureProblem) (x : Fraction) (side : List Bool) → IsBoundedProblem p → IsInInterval (closure_net p) x → IsLeast (network_at (closure_net p) x) side →
    capacity (network_at (closure_net p) x) side
    ≡ ((((pos 1000001 *ℤ x.q) +ℤ x.p) *ℤ sum_of_all p.weights) +ℤ ((x.q *ℤ cost_of p (items_of p side)) -ℤ (x.p *ℤ weight_of p (items_of p side))))
capacity_at_least p x side items inside least =
    ap (capacity (network_at (closure_net p) x)) (cut_is_side p side (net_cut p x side least.cut))
    ∙ closure_capacity p (items_of p side) x items.problem (least_is_closure p x side items inside least)

pub smallest_is_below : (p : ClosureProblem) (x : Fraction) (side : List Bool) → IsBoundedProblem p → IsInInterval (closure_net p) x →
    IsSmallestLeast (network_at (closure_net p) x) side → IsNonempty (items_of p side) →
    (x.q *ℤ cost_of p (items_of p side)) <ℤ (x.p *ℤ weight_of p (items_of p side))
smallest_is_below p x side items within s some =
    let g = network_at (closure_net p) x in
    let alone = side_of (none_of p) in
    let here = capacity_at_least p x side items within s.least in
    let there = alone_capacity p x items.problem in
    let cut = net_cut p x side s.least.cut in
    let full = items_full p side cut in
    by_lt_z (x.q *ℤ cost_of p (items_of p side)) (x.p *ℤ weight_of p (items_of p side))
    (λ less. less)
    (λ more.
    let least : IsLeast g alone = record {
      cut = alone_cut p x;
      least = λ other o. let e = s.least.least other o in omega (arith, ints, e, here, there, more);
    } in
    let i = some.item in
    let low = inside (items_of p side) i some.held in
    let held : has side (suc i) ≡ true = ap (λ l. has l (suc i)) (cut_is_side p side cut) ∙ has_side (items_of p side) i low ∙ some.held in
    let there = s.smallest alone least (suc i) held in
    let off : has alone (suc i) ≡ false =
    has_side (none_of p) i (omega (arith, low, full, length-replicate (length p.costs) false)) ∙ has_none (length p.costs) i in
    absurd (both_ways _ off there))

-- without an item it is the source alone, and no closure has a smaller ratio
pub all_off : (set : List Bool) → (IsNonempty set → ⊥) → (i : ℕ) → has set i ≡ false
all_off set none i = elim (cases_Bool (has set i)) [
  | inl held ↦ absurd (none (record { item = i; held = held }))
  | inr off ↦ off
]

sum_off : (set : List Bool) (xs : List ℤ) → ((i : ℕ) → has set i ≡ false) → sum_of_side set xs ≡ pos 0
sum_off [] xs h = refl
sum_off (b ∷ set) [] h = refl
sum_off (b ∷ set) (x ∷ xs) h = off_step b x _ (h 0) (sum_off set xs (λ i. h (suc i)))

pub source_alone_is_best : (p : ClosureProblem) (x : Fraction) (side : List Bool) → IsBoundedProblem p → IsInInterval (closure_net p) x →
    IsLeast (network_at (closure_net p) x) side → (IsNonempty (items_of p side) → ⊥) → (other : List Bool) → IsClosure p other →
    (x.p *ℤ weight_of p other) ≤ℤ (x.q *ℤ cost_of p other)
source_alone_is_best p x side items inside least none other c =
    let here = capacity_at_least p x side items inside least in
    let there = closure_capacity p other x items.problem c in
    let e = least.least (side_of other) (at_cut p x (side_of other) (closure_cut p other c.full)) in
    let empty = all_off (items_of p side) none in
    let zero_times : (k : ℤ) → k *ℤ pos 0 ≡ pos 0 = λ k. omega (arith, ints) in
    let f = ap (λ n. x.q *ℤ n) (sum_off (items_of p side) p.costs empty) in
    let g = ap (λ n. x.p *ℤ n) (sum_off (items_of p side) p.weights empty) in
    omega (arith, ints, here, there, e, f, g, zero_times x.q, zero_times x.p)
