-- How many of the first numbers pass a test.
use Rattle.std.proofs.Common.{◌≡◌, ℕ, zero, suc, ◌+◌, ◌<◌, ◌≤◌, List, [], ◌∷◌, length, refl, Bool, true, false, cond, ◌&&◌, ltb, arith, ap, sym, ◌∙◌, inl, inr}
use Rattle.std.specs.Prelude.{ℤ, ◌==◌, ◌⊎◌}
use Rattle.std.proofs.lemmas.Bool.{cases_Bool, cases_eq}
use Rattle.std.proofs.lemmas.Bool.Decides.{nat_tests}
use Rattle.pf_model.specs.Cut.{at_arc}
use Rattle.pf_graph.specs.Labels.{crosses, crossing_edges}
use Rattle.pf_trees.specs.Trees.{is_number, put_if, numbered}
use Rattle.pf_trees.specs.Slots.{at, edge_at, IsPlaced}

abbrev pub count : ℕ → (ℕ → Bool) → ℕ
count zero test = 0
count (suc k) test = cond (test k) 1 0 + count k test

pub count_front : (k : ℕ) (test : ℕ → Bool) → count (suc k) test ≡ cond (test 0) 1 0 + count k (λ i. test (suc i))
count_front zero test = refl
count_front (suc k) test = let e = count_front k test in omega (arith, e)

pub count_none : (k : ℕ) (test : ℕ → Bool) → ((i : ℕ) → i < k → test i ≡ false) → count k test ≡ 0
count_none zero test h = refl
count_none (suc k) test h = let e = count_none k test (λ i l. h i (omega arith)) in rw (h k (omega arith)) (omega (arith, e))

pub count_all : (k : ℕ) (test : ℕ → Bool) → ((i : ℕ) → i < k → test i ≡ true) → count k test ≡ k
count_all zero test h = refl
count_all (suc k) test h = let e = count_all k test (λ i l. h i (omega arith)) in rw (h k (omega arith)) (omega (arith, e))

pub count_same : (k : ℕ) (test other : ℕ → Bool) → ((i : ℕ) → i < k → test i ≡ other i) → count k test ≡ count k other
count_same zero test other h = refl
count_same (suc k) test other h = rw (h k (omega arith), count_same k test other (λ i l. h i (omega arith))) refl

pub count_split : (k : ℕ) (test one two : ℕ → Bool) → ((i : ℕ) → i < k → cond (test i) 1 0 ≡ cond (one i) 1 0 + cond (two i) 1 0) →
    count k test ≡ count k one + count k two
count_split zero test one two h = refl
count_split (suc k) test one two h =
    let e = count_split k test one two (λ i l. h i (omega arith)) in
    let here = h k (omega arith) in
    omega (arith, e, here)

pub count_three : (k : ℕ) (one two three : ℕ → Bool) → ((i : ℕ) → i < k → (cond (one i) 1 0 + cond (two i) 1 0) + cond (three i) 1 0 ≤ 1) →
    (count k one + count k two) + count k three ≤ k
count_three zero one two three h = omega arith
count_three (suc k) one two three h =
    let e = count_three k one two three (λ i l. h i (omega arith)) in
    let here = h k (omega arith) in
    omega (arith, e, here)

pub count_some : (k : ℕ) (test : ℕ → Bool) (i : ℕ) → i < k → test i ≡ true → 0 < count k test
count_some zero test i h e = absurd (omega arith)
count_some (suc k) test i h e = elim (cases_eq i k) [
  | inl same ↦ rw (ap test (sym same) ∙ e) (omega arith)
  | inr ne ↦ let rest = count_some k test i (omega arith) e in omega (arith, rest)
]

-- so many more numbers
count_more_step : (c a b d : ℕ) → a ≡ b + d → c + a ≡ b + (c + d)
count_more_step c a b d e = omega arith

pub count_more : (i k r : ℕ) (test : ℕ → Bool) → r ≡ i + k → count r test ≡ count i test + count k (λ j. test (i + j))
count_more i zero r test e = let same : r ≡ i = omega arith in let f = ap (λ j. count j test) same in omega (arith, f)
count_more i (suc k) r test e =
    let same : r ≡ suc (i + k) = omega arith in
    ap (λ j. count j test) same ∙ count_more_step (cond (test (i + k)) 1 0) (count (i + k) test) (count i test) _ (count_more i k (i + k) test refl)

one_step : (m j : ℕ) (b : Bool) (n : ℕ) → n ≡ cond (ltb j m && b) 1 0 → cond ((m == j) && b) 1 0 + n ≡ cond (ltb j (suc m) && b) 1 0
one_step m j true n e = grind (arith, nat_tests)
one_step m j false n e = grind (arith, nat_tests)

-- a test that holds at most at j
pub count_one : (m j : ℕ) (b : Bool) (test : ℕ → Bool) → ((x : ℕ) → x < m → test x ≡ ((x == j) && b)) → count m test ≡ cond (ltb j m && b) 1 0
count_one zero j b test h = one_none j b
  where
    one_none : (j : ℕ) (b : Bool) → 0 ≡ cond {A = ℕ} (ltb j 0 && b) 1 0
    one_none j true = grind (arith, nat_tests)
    one_none j false = grind (arith, nat_tests)
count_one (suc m) j b test h = rw (h m (omega arith)) (one_step m j b _ (count_one m j b test (λ x l. h x (omega arith))))

-- some number passes, or none does
pub record IsSome (k : ℕ) (test : ℕ → Bool) : Type 0 where
  pub index : ℕ
  pub in_range : index < k
  pub passes : test index ≡ true

pub some_or_none : (k : ℕ) (test : ℕ → Bool) → IsSome k test ⊎ ((i : ℕ) → i < k → test i ≡ false)
some_or_none zero test = inr (λ i h. absurd (omega arith))
some_or_none (suc k) test = elim (cases_Bool (test k)) [
  | inl here ↦ inl (record { index = k; in_range = omega arith; passes = here })
  | inr not_here ↦ elim (some_or_none k test) [
    | inl some ↦ inl (let l = some.in_range in record { index = some.index; in_range = omega arith; passes = some.passes })
    | inr none ↦ inr (λ i h. elim (cases_eq i k) [
      | inl e ↦ ap test e ∙ not_here
      | inr ne ↦ none i (omega arith)
    ])
  ]
]

-- counted edge by edge
pub crossing_counted : (ends : List (ℕ × ℕ)) (labels : List ℕ) → crossing_edges ends labels ≡ count (length ends) (λ i. crosses labels (edge_at ends i))
crossing_counted [] labels = refl
crossing_counted (edge ∷ ends) labels =
    ap (λ n. cond (crosses labels edge) 1 0 + n) (crossing_counted ends labels)
    ∙ sym (count_front (length ends) (λ i. crosses labels (edge_at (edge ∷ ends) i)))

length-put : (b : Bool) (edge : ℕ × ℕ) (edges : List (ℕ × ℕ)) → length (put_if b edge edges) ≡ cond b 1 0 + length edges
length-put true edge edges = omega arith
length-put false edge edges = omega arith

pub numbered_counted : (j : ℕ) (ends : List (ℕ × ℕ)) (numbers : List ℤ) → length numbers ≡ length ends →
    length (numbered j ends numbers) ≡ count (length ends) (λ i. is_number j (at_arc numbers i))
numbered_counted j [] numbers e = refl
numbered_counted j (edge ∷ ends) [] e = absurd (omega arith)
numbered_counted j (edge ∷ ends) (x ∷ numbers) e =
    length-put (is_number j x) edge (numbered j ends numbers)
    ∙ ap (λ n. cond (is_number j x) 1 0 + n) (numbered_counted j ends numbers (omega arith))
    ∙ sym (count_front (length ends) (λ i. is_number j (at_arc (x ∷ numbers) i)))

placed_one : (place_x k x slot_k : ℕ) (here there : Bool) → (place_x ≡ k → slot_k ≡ x) → (x ≡ slot_k → place_x ≡ k) → (x ≡ slot_k → here ≡ there) →
    (here && (place_x == k)) ≡ ((x == slot_k) && there)
placed_one place_x k x slot_k true there a b h = grind (arith, nat_tests)
placed_one place_x k x slot_k false there a b h = grind (arith, nat_tests)

below_split : (p k : ℕ) (b : Bool) → cond (b && ltb p (suc k)) 1 0 ≡ cond (b && ltb p k) 1 0 + cond (b && (p == k)) 1 0
below_split p k true = grind (arith, nat_tests)
below_split p k false = grind (arith, nat_tests)

at_slot : (m t : ℕ) (slot place : List ℕ) (test : ℕ → Bool) → IsPlaced m t slot place → (k : ℕ) → k < t →
    count m (λ x. test x && (at place x == k)) ≡ cond (ltb (at slot k) m && test (at slot k)) 1 0
at_slot m t slot place test p k h =
    count_one m (at slot k) (test (at slot k)) (λ x. test x && (at place x == k)) (λ x l.
    placed_one (at place x) k x (at slot k) (test x) (test (at slot k))
    (λ e. let q = p.forth x l (omega arith) in ap (at slot) (sym e) ∙ q)
    (λ e. ap (at place) e ∙ p.back k h (omega arith))
    (λ e. ap test e))

-- the edges in the first k slots, counted by edges and by slots
pub count_placed : (m t : ℕ) (slot place : List ℕ) (test : ℕ → Bool) → IsPlaced m t slot place → (k : ℕ) → k ≤ t →
    count m (λ x. test x && ltb (at place x) k) ≡ count k (λ s. ltb (at slot s) m && test (at slot s))
count_placed m t slot place test p zero h = count_none m (λ x. test x && ltb (at place x) 0) (λ x l. none_below (at place x) (test x))
  where
    none_below : (q : ℕ) (b : Bool) → (b && ltb q 0) ≡ false
    none_below q true = grind (arith, nat_tests)
    none_below q false = refl
count_placed m t slot place test p (suc k) h =
    let split = count_split m (λ x. test x && ltb (at place x) (suc k)) (λ x. test x && ltb (at place x) k) (λ x. test x && (at place x == k))
    (λ x l. below_split (at place x) k (test x)) in
    let rest = count_placed m t slot place test p k (omega arith) in
    let here = at_slot m t slot place test p k (omega arith) in
    omega (arith, split, rest, here)
