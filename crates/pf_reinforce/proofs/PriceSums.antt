-- Sums over edges by their prices: what is paid above one threshold and above the next.
use Rattle.std.proofs.Common.{◌≡◌, ℕ, zero, suc, ◌<◌, List, [], ◌∷◌, length, refl, Bool, true, false, cond, arith, ap, sym, ◌∙◌, inl, inr}
use Rattle.std.specs.Prelude.{ℤ, ◌+ℤ◌, ◌-ℤ◌, ◌*ℤ◌, ◌≤ℤ◌, ◌<ℤ◌, pos, int_lt, ◌⊎◌}
use Rattle.std.proofs.lemmas.Int.{ints}
use Rattle.pf_model.specs.Cut.{at_arc}
use Rattle.pf_model.proofs.Integers.{mul_add, add_mul, mul_assoc, mul_comm, mul_most}
use Rattle.pf_reinforce.specs.Reinforcement.{cost_of_added, sum_from, IsAmong}

-- the sum of what each price is above c, times the number; lower prices count nothing
abbrev pub paid_above : ℤ → List ℤ → List ℤ → ℤ
paid_above c [] numbers = pos 0
paid_above c (price ∷ prices) [] = pos 0
paid_above c (price ∷ prices) (x ∷ numbers) = cond (int_lt price c) (pos 0) ((price -ℤ c) *ℤ x) +ℤ paid_above c prices numbers

-- no price is strictly between
abbrev pub IsApart : ℤ → ℤ → ℤ → Type 0
IsApart low high price = (price ≤ℤ low) ⊎ (high ≤ℤ price)

cost_step : (below : Bool) (price x a b : ℤ) → int_lt price (pos 0) ≡ below → pos 0 ≤ℤ price → a ≡ b → (price *ℤ x) +ℤ a ≡ cond below (pos 0) ((price -ℤ pos 0) *ℤ x) +ℤ b
cost_step true price x a b e low h = absurd (omega (arith, ints, e, low))
cost_step false price x a b e low h =
    let same : price -ℤ pos 0 ≡ price = omega (arith, ints) in
    let s = ap (λ z. z *ℤ x) same in
    omega (arith, ints, h, s)

-- above 0 it is the whole cost
pub cost_is_paid : (prices numbers : List ℤ) → ((i : ℕ) → i < length prices → pos 0 ≤ℤ at_arc prices i) → cost_of_added prices numbers ≡ paid_above (pos 0) prices numbers
cost_is_paid [] numbers low = refl
cost_is_paid (price ∷ prices) [] low = refl
cost_is_paid (price ∷ prices) (x ∷ numbers) low =
    cost_step (int_lt price (pos 0)) price x (cost_of_added prices numbers) (paid_above (pos 0) prices numbers) refl (low 0 (omega arith))
    (cost_is_paid prices numbers (λ i h. low (suc i) (omega (arith, h))))

none_step : (below : Bool) (price c x a : ℤ) → int_lt price c ≡ below → price ≤ℤ c → a ≡ pos 0 → cond below (pos 0) ((price -ℤ c) *ℤ x) +ℤ a ≡ pos 0
none_step true price c x a e high h = omega (arith, ints, h)
none_step false price c x a e high h =
    let same : price -ℤ c ≡ pos 0 = omega (arith, ints, e, high) in
    let s = ap (λ z. z *ℤ x) same in
    let zero_is : pos 0 *ℤ x ≡ pos 0 = omega (arith, ints) in
    omega (arith, ints, h, s, zero_is)

-- above the greatest price nothing is paid
pub none_above : (c : ℤ) (prices numbers : List ℤ) → ((i : ℕ) → i < length prices → at_arc prices i ≤ℤ c) → paid_above c prices numbers ≡ pos 0
none_above c [] numbers high = refl
none_above c (price ∷ prices) [] high = refl
none_above c (price ∷ prices) (x ∷ numbers) high =
    none_step (int_lt price c) price c x (paid_above c prices numbers) refl (high 0 (omega arith))
    (none_above c prices numbers (λ i h. high (suc i) (omega (arith, h))))

-- one edge, from a threshold to the next: below both, between, above both
move_step : (below under : Bool) (price c d x a b s : ℤ) → int_lt price c ≡ below → int_lt price d ≡ under → c ≤ℤ d → IsApart c d price → a ≡ b +ℤ ((d -ℤ c) *ℤ s) →
    cond below (pos 0) ((price -ℤ c) *ℤ x) +ℤ a ≡ (cond under (pos 0) ((price -ℤ d) *ℤ x) +ℤ b) +ℤ ((d -ℤ c) *ℤ (cond under (pos 0) x +ℤ s))
move_step true true price c d x a b s e f less apart h =
    let none : pos 0 +ℤ s ≡ s = omega (arith, ints) in
    let t = ap (λ z. (d -ℤ c) *ℤ z) none in
    omega (arith, ints, h, t)
move_step true false price c d x a b s e f less apart h = absurd (omega (arith, ints, e, f, less))
move_step false true price c d x a b s e f less apart h =
    let same : price -ℤ c ≡ pos 0 = elim apart [
      | inl low ↦ omega (arith, ints, e, low)
      | inr high ↦ absurd (omega (arith, ints, f, high))
    ] in
    let t = ap (λ z. z *ℤ x) same in
    let zero_is : pos 0 *ℤ x ≡ pos 0 = omega (arith, ints) in
    let none : pos 0 +ℤ s ≡ s = omega (arith, ints) in
    let r = ap (λ z. (d -ℤ c) *ℤ z) none in
    omega (arith, ints, h, t, zero_is, r)
move_step false false price c d x a b s e f less apart h =
    let gap : price -ℤ c ≡ (price -ℤ d) +ℤ (d -ℤ c) = omega (arith, ints) in
    let t = ap (λ z. z *ℤ x) gap ∙ add_mul (price -ℤ d) (d -ℤ c) x in
    let r = mul_add (d -ℤ c) x s in
    omega (arith, ints, h, t, r)

-- what is paid above c, where d is the next price: what is paid above d, and the rest of it for each number from d on
pub paid_moves : (c d : ℤ) (prices numbers : List ℤ) → c ≤ℤ d → ((i : ℕ) → i < length prices → IsApart c d (at_arc prices i)) →
    paid_above c prices numbers ≡ paid_above d prices numbers +ℤ ((d -ℤ c) *ℤ sum_from d prices numbers)
paid_moves c d [] numbers less apart = let none : (d -ℤ c) *ℤ pos 0 ≡ pos 0 = omega (arith, ints) in omega (arith, ints, none)
paid_moves c d (price ∷ prices) [] less apart = let none : (d -ℤ c) *ℤ pos 0 ≡ pos 0 = omega (arith, ints) in omega (arith, ints, none)
paid_moves c d (price ∷ prices) (x ∷ numbers) less apart =
    move_step (int_lt price c) (int_lt price d) price c d x (paid_above c prices numbers) (paid_above d prices numbers) (sum_from d prices numbers) refl refl less
    (apart 0 (omega arith)) (paid_moves c d prices numbers less (λ i h. apart (suc i) (omega (arith, h))))

-- where more is there from each threshold on, more is paid
swap_factors : (k d s : ℤ) → k *ℤ (d *ℤ s) ≡ d *ℤ (k *ℤ s)
swap_factors k d s = sym (mul_assoc k d s) ∙ (ap (λ z. z *ℤ s) (mul_comm k d) ∙ mul_assoc d k s)

more_step : (k d a b s t a' b' : ℤ) → pos 0 ≤ℤ d → (k *ℤ b) ≤ℤ b' → (k *ℤ s) ≤ℤ t → a ≡ b +ℤ (d *ℤ s) → a' ≡ b' +ℤ (d *ℤ t) → (k *ℤ a) ≤ℤ a'
more_step k d a b s t a' b' low h l e f =
    let m = mul_most d (k *ℤ s) t low l in
    let g = ap (λ z. k *ℤ z) e ∙ mul_add k b (d *ℤ s) in
    let r = swap_factors k d s in
    omega (arith, ints, m, g, r, h, f)

-- each price is at most c or one of the thresholds
pub record IsCovered (c : ℤ) (prices thresholds : List ℤ) : Type 0 where
  pub covered : (i : ℕ) → i < length prices → (at_arc prices i ≤ℤ c) ⊎ IsAmong (at_arc prices i) thresholds

-- the thresholds rise, from c on
pub record IsRisingFrom (c : ℤ) (thresholds : List ℤ) : Type 0 where
  pub above : 0 < length thresholds → c ≤ℤ at_arc thresholds 0
  pub rise : (j : ℕ) → suc j < length thresholds → at_arc thresholds j <ℤ at_arc thresholds (suc j)

rising_least : (c d : ℤ) (thresholds : List ℤ) → IsRisingFrom c (d ∷ thresholds) → (j : ℕ) → j < suc (length thresholds) → d ≤ℤ at_arc (d ∷ thresholds) j
rising_least c d thresholds r zero low = omega (arith, ints)
rising_least c d thresholds r (suc j) low =
    let before = rising_least c d thresholds r j (omega (arith, low)) in
    let step = r.rise j low in
    omega (arith, ints, before, step)

-- the first threshold is the next price
next_apart : (c d price : ℤ) (thresholds : List ℤ) → IsRisingFrom c (d ∷ thresholds) → (price ≤ℤ c) ⊎ IsAmong price (d ∷ thresholds) → IsApart c d price
next_apart c d price thresholds r a = elim a [
  | inl low ↦ inl low
  | inr among ↦ inr (let e = among.there in let least = rising_least c d thresholds r among.place among.in_range in omega (arith, ints, e, least))
]

-- a price among the thresholds is the first of them or a later one
later_place : (d price : ℤ) (thresholds : List ℤ) (place : ℕ) → place < suc (length thresholds) → at_arc (d ∷ thresholds) place ≡ price → (price ≤ℤ d) ⊎ IsAmong price thresholds
later_place d price thresholds zero low e = inl (omega (arith, ints, e))
later_place d price thresholds (suc j) low e = inr (record { place = j; in_range = omega (arith, low); there = e })

covered_later : (c d price : ℤ) (thresholds : List ℤ) → c ≤ℤ d → (price ≤ℤ c) ⊎ IsAmong price (d ∷ thresholds) → (price ≤ℤ d) ⊎ IsAmong price thresholds
covered_later c d price thresholds less a = elim a [
  | inl low ↦ inl (omega (arith, ints, low, less))
  | inr among ↦ later_place d price thresholds among.place among.in_range among.there
]

none_among : (c price : ℤ) → (price ≤ℤ c) ⊎ IsAmong price [] → price ≤ℤ c
none_among c price a = elim a [
  | inl low ↦ low
  | inr among ↦ absurd (omega (arith, among.in_range))
]

pub paid_more : (k c : ℤ) (prices thresholds xs ys : List ℤ) → IsRisingFrom c thresholds → IsCovered c prices thresholds →
    ((j : ℕ) → j < length thresholds → (k *ℤ sum_from (at_arc thresholds j) prices xs) ≤ℤ sum_from (at_arc thresholds j) prices ys) →
    (k *ℤ paid_above c prices xs) ≤ℤ paid_above c prices ys
paid_more k c prices [] xs ys r v more =
    let a = none_above c prices xs (λ i low. none_among c (at_arc prices i) (v.covered i low)) in
    let b = none_above c prices ys (λ i low. none_among c (at_arc prices i) (v.covered i low)) in
    let e = ap (λ z. k *ℤ z) a in
    let none : k *ℤ pos 0 ≡ pos 0 = omega (arith, ints) in
    omega (arith, ints, b, e, none)
paid_more k c prices (d ∷ thresholds) xs ys r v more =
    let less = r.above (omega arith) in
    let apart : (i : ℕ) → i < length prices → IsApart c d (at_arc prices i) = λ i low. next_apart c d (at_arc prices i) thresholds r (v.covered i low) in
    let rest = paid_more k d prices thresholds xs ys
    (record { above = λ some. let e = r.rise 0 (omega (arith, some)) in omega (arith, ints, e); rise = λ j low. r.rise (suc j) (omega (arith, low)) })
    (record { covered = λ i low. covered_later c d (at_arc prices i) thresholds less (v.covered i low) })
    (λ j low. more (suc j) (omega (arith, low))) in
    more_step k (d -ℤ c) (paid_above c prices xs) (paid_above d prices xs) (sum_from d prices xs) (sum_from d prices ys) (paid_above c prices ys) (paid_above d prices ys)
    (omega (arith, ints, less)) rest (more 0 (omega arith))
    (paid_moves c d prices xs less apart) (paid_moves c d prices ys less apart)
