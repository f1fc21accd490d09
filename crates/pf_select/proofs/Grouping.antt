-- Sums over indices, and sums over needs taken together by product or by part.
use Rattle.std.proofs.Common.{◌≡◌, ◌≢◌, ℕ, zero, suc, ◌<◌, List, [], ◌∷◌, length, get_or, refl, Bool, true, false, cond, eqb, arith, ap, sym, ◌∙◌, inl, inr}
use Rattle.std.specs.Prelude.{ℤ, ◌+ℤ◌, ◌*ℤ◌, ◌≤ℤ◌, pos, ◌==◌}
use Rattle.std.proofs.lemmas.Int.{ints}
use Rattle.std.proofs.lemmas.Bool.{cases_eq}
use Rattle.std.proofs.lemmas.Bool.Decides.{nat_tests}
use Rattle.pf_model.specs.Cut.{sum_where, at_arc, has}
use Rattle.pf_model.proofs.Integers.{mul_add}
use Rattle.pf_select.specs.Problem.{sum_of}
use Rattle.pf_model.proofs.Facts.{off_step}

-- the sum over the numbers below k
abbrev pub sum_below : (ℕ → ℤ) → ℕ → ℤ
sum_below f zero = pos 0
sum_below f (suc k) = sum_below f k +ℤ f k

-- each number and its bound there
abbrev pub IsMost : (ℕ → ℤ) → (ℕ → ℤ) → ℕ → Type 0
IsMost f g n = (i : ℕ) → i < n → f i ≤ℤ g i

pub below_most : (f g : ℕ → ℤ) (n : ℕ) → IsMost f g n → sum_below f n ≤ℤ sum_below g n
below_most f g zero h = omega (arith, ints)
below_most f g (suc n) h =
    let here = h n (omega arith) in
    let rest = below_most f g n (λ i low. h i (omega (arith, low))) in
    omega (arith, ints, here, rest)

pub below_tight : (f g : ℕ → ℤ) (n : ℕ) → IsMost f g n → sum_below g n ≤ℤ sum_below f n → (i : ℕ) → i < n → g i ≤ℤ f i
below_tight f g zero h t i low = absurd (omega (arith, low))
below_tight f g (suc n) h t i low =
    let here = h n (omega arith) in
    let before : IsMost f g n = λ i low. h i (omega (arith, low)) in
    let rest = below_most f g n before in
    elim (cases_eq i n) [
      | inl same ↦ rw same (omega (arith, ints, here, rest, t))
      | inr other ↦ below_tight f g n before (omega (arith, ints, here, rest, t)) i (omega (arith, low, other))
    ]

pub below_same : (f g : ℕ → ℤ) (n : ℕ) → ((i : ℕ) → i < n → f i ≡ g i) → sum_below f n ≡ sum_below g n
below_same f g zero h = refl
below_same f g (suc n) h =
    let here = h n (omega arith) in
    let rest = below_same f g n (λ i low. h i (omega (arith, low))) in
    omega (arith, ints, here, rest)

pub below_add : (f g : ℕ → ℤ) (n : ℕ) → sum_below (λ i. f i +ℤ g i) n ≡ sum_below f n +ℤ sum_below g n
below_add f g zero = omega (arith, ints)
below_add f g (suc n) = let rest = below_add f g n in omega (arith, ints, rest)

pub below_times : (k : ℤ) (f : ℕ → ℤ) (n : ℕ) → sum_below (λ i. k *ℤ f i) n ≡ k *ℤ sum_below f n
below_times k f zero = omega (arith, ints)
below_times k f (suc n) =
    let rest = below_times k f n in
    let e = mul_add k (sum_below f n) (f n) in
    omega (arith, ints, rest, e)

pub below_none : (f : ℕ → ℤ) (n : ℕ) → ((i : ℕ) → i < n → f i ≡ pos 0) → sum_below f n ≡ pos 0
below_none f zero h = refl
below_none f (suc n) h =
    let here = h n (omega arith) in
    let rest = below_none f n (λ i low. h i (omega (arith, low))) in
    omega (arith, ints, here, rest)

-- the first number apart
below_first : (f : ℕ → ℤ) (n : ℕ) → sum_below f (suc n) ≡ f 0 +ℤ sum_below (λ i. f (suc i)) n
below_first f zero = omega (arith, ints)
below_first f (suc n) = let rest = below_first f n in omega (arith, ints, rest)

-- the number at one index
one_there : (k : ℕ) (x : ℤ) → cond (eqb k k) x (pos 0) ≡ x
one_there k x = let e : eqb k k ≡ true = grind (arith, nat_tests) in rw e refl

one_elsewhere : (k i : ℕ) (x : ℤ) → k ≢ i → cond (eqb k i) x (pos 0) ≡ pos 0
one_elsewhere k i x h = let e : eqb k i ≡ false = grind (arith, nat_tests) in rw e refl

below_one : (k : ℕ) (f : ℕ → ℤ) (n : ℕ) → k < n → sum_below (λ i. cond (eqb k i) (f i) (pos 0)) n ≡ f k
below_one k f zero low = absurd (omega (arith, low))
below_one k f (suc n) low = elim (cases_eq k n) [
  | inl same ↦
      let rest = below_none (λ i. cond (eqb k i) (f i) (pos 0)) n (λ i less. one_elsewhere k i (f i) (omega (arith, same, less))) in
      let here : cond (eqb k n) (f n) (pos 0) ≡ f k = rw same (one_there n (f n)) in
      omega (arith, ints, rest, here)
  | inr other ↦
      let rest = below_one k f n (omega (arith, low, other)) in
      let here = one_elsewhere k n (f n) other in
      omega (arith, ints, rest, here)
]

-- a sum over the indices that pass a test
pub sum_is_below : (test : ℕ → Bool) (xs : List ℤ) → sum_of test xs ≡ sum_below (λ i. cond (test i) (at_arc xs i) (pos 0)) (length xs)
sum_is_below test [] = refl
sum_is_below test (x ∷ xs) =
    let rest = sum_is_below (λ i. test (suc i)) xs in
    let first = below_first (λ i. cond (test i) (at_arc (x ∷ xs) i) (pos 0)) (length xs) in
    omega (arith, ints, rest, first)

-- the needs of which an end passes a test, taken together by that end
abbrev by_end : (ℕ × ℕ → ℕ) → List (ℕ × ℕ) → List ℤ → ℕ → ℤ
by_end key arcs xs i = sum_where (λ arc. key arc == i) arcs xs

no_sum : (b : Bool) → cond b (pos 0) (pos 0) ≡ pos 0
no_sum true = refl
no_sum false = refl

one_more : (test here : Bool) (x s : ℤ) →
    cond test (cond here x (pos 0) +ℤ s) (pos 0) ≡ cond here (cond test x (pos 0)) (pos 0) +ℤ cond test s (pos 0)
one_more true true x s = omega (arith, ints)
one_more true false x s = omega (arith, ints)
one_more false true x s = omega (arith, ints)
one_more false false x s = omega (arith, ints)

pub grouped : (key : ℕ × ℕ → ℕ) (test : ℕ → Bool) (arcs : List (ℕ × ℕ)) (xs : List ℤ) (n : ℕ) →
    ((k : ℕ) → k < length arcs → key (get_or arcs k (0, 0)) < n) →
    sum_where (λ arc. test (key arc)) arcs xs ≡ sum_below (λ i. cond (test i) (sum_where (λ arc. key arc == i) arcs xs) (pos 0)) n
grouped key test [] xs n h = sym (below_none (λ i. cond (test i) (pos 0) (pos 0)) n (λ i low. no_sum (test i)))
grouped key test (arc ∷ arcs) [] n h = sym (below_none (λ i. cond (test i) (pos 0) (pos 0)) n (λ i low. no_sum (test i)))
grouped key test (arc ∷ arcs) (x ∷ xs) n h =
    let rest = grouped key test arcs xs n (λ k low. h (suc k) (omega (arith, low))) in
    let more = below_same (λ i. cond (test i) (cond (key arc == i) x (pos 0) +ℤ by_end key arcs xs i) (pos 0))
    (λ i. cond (key arc == i) (cond (test i) x (pos 0)) (pos 0) +ℤ cond (test i) (by_end key arcs xs i) (pos 0)) n
    (λ i low. one_more (test i) (key arc == i) x (by_end key arcs xs i)) in
    let parts = below_add (λ i. cond (key arc == i) (cond (test i) x (pos 0)) (pos 0)) (λ i. cond (test i) (by_end key arcs xs i) (pos 0)) n in
    let here = below_one (key arc) (λ i. cond (test i) x (pos 0)) n (h 0 (omega arith)) in
    omega (arith, ints, rest, more, parts, here)

-- tests that say the same of each need
same_step : (p q : Bool) (x a b : ℤ) → p ≡ q → a ≡ b → cond p x (pos 0) +ℤ a ≡ cond q x (pos 0) +ℤ b
same_step p q x a b e h = rw (e, h) refl

pub same_at : (test other : ℕ × ℕ → Bool) (arcs : List (ℕ × ℕ)) (xs : List ℤ) →
    ((k : ℕ) → k < length arcs → test (get_or arcs k (0, 0)) ≡ other (get_or arcs k (0, 0))) → sum_where test arcs xs ≡ sum_where other arcs xs
same_at test other [] xs h = refl
same_at test other (arc ∷ arcs) [] h = refl
same_at test other (arc ∷ arcs) (x ∷ xs) h =
    same_step (test arc) (other arc) x _ _ (h 0 (omega arith)) (same_at test other arcs xs (λ k low. h (suc k) (omega (arith, low))))

-- the list of a test's values
abbrev pub listed : (ℕ → Bool) → ℕ → List Bool
listed test zero = []
listed test (suc n) = test 0 ∷ listed (λ i. test (suc i)) n

pub has_listed : (test : ℕ → Bool) (n i : ℕ) → i < n → has (listed test n) i ≡ test i
has_listed test zero i low = absurd (omega (arith, low))
has_listed test (suc n) zero low = refl
has_listed test (suc n) (suc i) low = has_listed (λ j. test (suc j)) n i (omega (arith, low))

pub length_listed : (test : ℕ → Bool) (n : ℕ) → length (listed test n) ≡ n
length_listed test zero = refl
length_listed test (suc n) = ap suc (length_listed (λ i. test (suc i)) n)

pub sum_none : (test : ℕ → Bool) (xs : List ℤ) → ((i : ℕ) → i < length xs → test i ≡ false) → sum_of test xs ≡ pos 0
sum_none test [] h = refl
sum_none test (x ∷ xs) h = off_step (test 0) x _ (h 0 (omega arith)) (sum_none (λ i. test (suc i)) xs (λ i low. h (suc i) (omega (arith, low))))

-- tests that say the same of each index
index_step : (a b : Bool) (x r s : ℤ) → a ≡ b → r ≡ s → cond a x (pos 0) +ℤ r ≡ cond b x (pos 0) +ℤ s
index_step a b x r s e h = rw (e, h) refl

pub sum_same : (test other : ℕ → Bool) (xs : List ℤ) → ((i : ℕ) → i < length xs → test i ≡ other i) → sum_of test xs ≡ sum_of other xs
sum_same test other [] h = refl
sum_same test other (x ∷ xs) h =
    index_step (test 0) (other 0) x _ _ (h 0 (omega arith)) (sum_same (λ i. test (suc i)) (λ i. other (suc i)) xs (λ i low. h (suc i) (omega (arith, low))))

-- one index passes
pub sum_one : (test : ℕ → Bool) (xs : List ℤ) (v : ℕ) → v < length xs → ((i : ℕ) → i < length xs → test i ≡ eqb v i) → sum_of test xs ≡ at_arc xs v
sum_one test xs v low h =
    sum_is_below test xs
    ∙ below_same (λ i. cond (test i) (at_arc xs i) (pos 0)) (λ i. cond (eqb v i) (at_arc xs i) (pos 0)) (length xs)
    (λ i less. ap (λ b. cond b (at_arc xs i) (pos 0)) (h i less))
    ∙ below_one v (at_arc xs) (length xs) low
