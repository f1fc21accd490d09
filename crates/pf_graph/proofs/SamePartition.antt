-- The label rule: a pattern of equal labels has one list by it, and the greatest label is the number of parts.
use Rattle.std.proofs.Common.{◌≡◌, ℕ, zero, suc, ◌+◌, ◌<◌, ◌≤◌, List, [], ◌∷◌, length, take, refl, false, cond, ltb, arith, ap, sym, ◌∙◌, inl, inr}
use Rattle.std.specs.Prelude.{◌⊎◌}
use Rattle.std.proofs.lemmas.Bool.{cases_eq, cases_lt, cases_Bool}
use Rattle.std.proofs.lemmas.Bool.Decides.{nat_tests}
use Rattle.std.proofs.lemmas.Grind.{common_steps}
use Rattle.pf_graph.specs.Labels.{label, occurs, parts, greatest_label, IsPartition, Refines, IsSamePartition}
use Rattle.pf_graph.proofs.Counting.{count, count_all, count_sum, parts_count, occurs_find, label_occurs}

turn_step : (x y t : ℕ) → cond (ltb (cond (ltb t y) y t) x) x (cond (ltb t y) y t) ≡ cond (ltb (cond (ltb t x) x t) y) y (cond (ltb t x) x t)
turn_step x y t = grind (arith, nat_tests)

pub top_take : (d : List ℕ) (v : ℕ) → v < length d → greatest_label (take (suc v) d) ≡ cond (ltb (greatest_label (take v d)) (label d v)) (label d v) (greatest_label (take v d))
top_take [] v low = absurd (omega arith)
top_take (x ∷ d) zero low = refl
top_take (x ∷ d) (suc v) low =
    ap (λ t. cond (ltb t x) x t) (top_take d v (omega arith)) ∙ turn_step x (label d v) (greatest_label (take v d))

-- each number from 1 to the greatest label so far is a label so far
pub record IsSeen (d : List ℕ) (v a : ℕ) : Type 0 where
  pub vertex : ℕ
  pub before : vertex < v
  pub label_is : label d vertex ≡ a

seen_later : (d : List ℕ) (v a : ℕ) → IsSeen d v a → IsSeen d (suc v) a
seen_later d v a s = record { vertex = s.vertex; before = omega (arith, s.before); label_is = s.label_is }

over : (a l t : ℕ) → a ≤ cond (ltb t l) l t → l ≤ t + 1 → t < a → l ≡ a
over a l t h k more = grind (arith, nat_tests)

new_top : (a l t : ℕ) → a ≤ cond (ltb t l) l t → l ≤ t + 1 → (a ≤ t) ⊎ (l ≡ a)
new_top a l t h k = elim (cases_lt t a) [
  | inl more ↦ inr (over a l t h k more)
  | inr less ↦ inl less
]

pub seen : (d : List ℕ) (n v a : ℕ) → IsPartition n d → v ≤ n → 1 ≤ a → a ≤ greatest_label (take v d) → IsSeen d v a
seen d n zero a p low some most = absurd (omega (arith, some, most))
seen d n (suc v) a p low some most =
    let full = p.full in
    let here : v < n = omega arith in
    let e = top_take d v (omega (arith, here, full)) in
    elim (new_top a (label d v) (greatest_label (take v d)) (omega (arith, most, e)) (p.high v here)) [
      | inl old ↦ seen_later d v a (seen d n v a p (omega arith) some old)
      | inr now ↦ record { vertex = v; before = omega arith; label_is = now }
    ]

-- so two lists by the rule with one pattern agree label by label
abbrev AgreeBelow : List ℕ → List ℕ → ℕ → Type 0
AgreeBelow d r v = (u : ℕ) → u < v → label d u ≡ label r u

take_agree : (d r : List ℕ) (v : ℕ) → v ≤ length d → v ≤ length r → AgreeBelow d r v → take v d ≡ take v r
take_agree d r zero low low' h = refl
take_agree [] r (suc v) low low' h = absurd (omega arith)
take_agree (x ∷ d) [] (suc v) low low' h = absurd (omega arith)
take_agree (x ∷ d) (y ∷ r) (suc v) low low' h =
    let here : x ≡ y = h 0 (omega arith) in
    let rest = take_agree d r v (omega arith) (omega arith) (λ u less. h (suc u) (omega arith)) in
    ap (λ k. k ∷ take v d) here ∙ ap (λ xs. y ∷ xs) rest

-- a label that was there before is the same in the other list
old_label : (n v : ℕ) (d r : List ℕ) → IsPartition n d → Refines n d r → v < n → AgreeBelow d r v →
    label d v ≤ greatest_label (take v d) → label d v ≡ label r v
old_label n v d r p to low agree old =
    let s = seen d n v (label d v) p (omega arith) (p.low v low) old in
    let before = s.before in
    sym s.label_is ∙ agree s.vertex before ∙ to.joins s.vertex v (omega (arith, before, low)) low s.label_is

agree_step : (n v : ℕ) (d r : List ℕ) → IsPartition n d → IsPartition n r → IsSamePartition n d r → v < n → AgreeBelow d r v → label d v ≡ label r v
agree_step n v d r p q same low agree =
    let full_d = p.full in
    let full_r = q.full in
    let tops : greatest_label (take v d) ≡ greatest_label (take v r) = ap greatest_label (take_agree d r v (omega (arith, low, full_d)) (omega (arith, low, full_r)) agree) in
    elim (cases_lt (greatest_label (take v d)) (label d v)) [
      | inl new_d ↦ elim (cases_lt (greatest_label (take v r)) (label r v)) [
        | inl new_r ↦ let e = p.high v low in let f = q.high v low in omega (arith, e, f, new_d, new_r, tops)
        | inr old_r ↦ sym (old_label n v r d q same.back low (λ u less. sym (agree u less)) old_r)
      ]
      | inr old_d ↦ old_label n v d r p same.to low agree old_d
    ]

agree_below : (n v : ℕ) (d r : List ℕ) → IsPartition n d → IsPartition n r → IsSamePartition n d r → v ≤ n → AgreeBelow d r v
agree_below n zero d r p q same low u less = absurd (omega arith)
agree_below n (suc v) d r p q same low u less =
    let before : AgreeBelow d r v = agree_below n v d r p q same (omega arith) in
    elim (cases_eq u v) [
      | inl here ↦ ap (label d) here ∙ agree_step n v d r p q same (omega arith) before ∙ ap (label r) (sym here)
      | inr there ↦ before u (omega arith)
    ]

pub take_whole : (xs : List ℕ) (i : ℕ) → length xs ≤ i → take i xs ≡ xs
take_whole xs i h = grind (arith, common_steps)

pub same_partition : (n : ℕ) (d r : List ℕ) → IsPartition n d → IsPartition n r → IsSamePartition n d r → d ≡ r
same_partition n d r p q same =
    let full_d = p.full in
    let full_r = q.full in
    sym (take_whole d n (omega (arith, full_d)))
    ∙ take_agree d r n (omega (arith, full_d)) (omega (arith, full_r)) (agree_below n n d r p q same (omega arith))
    ∙ take_whole r n (omega (arith, full_r))

-- by the rule the number of parts is the greatest label
absent_zero : (n : ℕ) (d : List ℕ) → IsPartition n d → occurs 0 d ≡ false
absent_zero n d p = elim (cases_Bool (occurs 0 d)) [
  | inl on ↦
      let found = occurs_find 0 d on in
      let low = found.in_range in
      let e = found.label_is in
      let full = p.full in
      let some = p.low found.vertex (omega (arith, low, full)) in
      absurd (omega (arith, some, e))
  | inr off ↦ off
]

pub parts_greatest : (n : ℕ) (d : List ℕ) → IsPartition n d → parts d ≡ greatest_label d
parts_greatest n d p =
    let full = p.full in
    let whole = take_whole d n (omega (arith, full)) in
    let all = count_all (greatest_label d) (λ a. occurs (1 + a) d)
    (λ a low.
    let s = seen d n n (1 + a) p (omega arith) (omega arith) (rw (whole) (omega (arith, low))) in
    let before = s.before in
    label_occurs (1 + a) d s.vertex (omega (arith, before, full)) s.label_is) in
    let halves = count_sum 1 (greatest_label d) (λ a. occurs a d) in
    let first : count 1 (λ a. occurs a d) ≡ 0 = (let e = absent_zero n d p in rw (e) refl) in
    let e : parts d ≡ count (1 + greatest_label d) (λ a. occurs a d) = parts_count d (1 + greatest_label d) (omega arith) in
    omega (arith, all, halves, first, e)
