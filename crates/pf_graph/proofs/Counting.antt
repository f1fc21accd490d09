-- How many numbers below a bound pass a test, and so how many labels are different.
use Rattle.std.proofs.Common.{◌≡◌, ◌≢◌, ℕ, zero, suc, ◌+◌, ◌<◌, ◌≤◌, List, [], ◌∷◌, length, refl, Bool, true, false, cond, eqb, ltb, not, ◌&&◌, ◌||◌, arith, ap, sym, ◌∙◌, inl, inr}
use Rattle.std.proofs.lemmas.Bool.{cases_eq, cases_Bool, eq-eqb, eqb-true, ne_eqb, or_right}
use Rattle.std.proofs.lemmas.Bool.Decides.{nat_tests}
use Rattle.pf_graph.specs.Labels.{label, occurs, parts, greatest_label, Refines}

-- the number of numbers below n that pass
abbrev pub count : ℕ → (ℕ → Bool) → ℕ
count zero test = 0
count (suc n) test = cond (test n) 1 0 + count n test

pub same_bool : (p q : Bool) → (p ≡ true → q ≡ true) → (q ≡ true → p ≡ true) → p ≡ q
same_bool true true h k = refl
same_bool true false h k = sym (h refl)
same_bool false true h k = k refl
same_bool false false h k = refl

same_step : (p q : Bool) (m n : ℕ) → p ≡ q → m ≡ n → cond p 1 0 + m ≡ cond q 1 0 + n
same_step true true m n e h = omega arith
same_step true false m n e h = cc
same_step false true m n e h = cc
same_step false false m n e h = omega arith

pub count_same : (n : ℕ) (p q : ℕ → Bool) → ((a : ℕ) → a < n → p a ≡ q a) → count n p ≡ count n q
count_same zero p q h = refl
count_same (suc n) p q h = same_step (p n) (q n) _ _ (h n (omega arith)) (count_same n p q (λ a low. h a (omega arith)))

-- one number more passes
more_here : (p q : Bool) (m n : ℕ) → p ≡ false → q ≡ true → m ≡ n → cond q 1 0 + m ≡ cond p 1 0 + n + 1
more_here true q m n e f h = cc
more_here false true m n e f h = omega arith
more_here false false m n e f h = cc

more_later : (p q : Bool) (m n : ℕ) → p ≡ q → m ≡ n + 1 → cond q 1 0 + m ≡ cond p 1 0 + n + 1
more_later true true m n e h = omega arith
more_later true false m n e h = cc
more_later false true m n e h = cc
more_later false false m n e h = omega arith

pub count_more : (n x : ℕ) (p q : ℕ → Bool) → x < n → p x ≡ false → q x ≡ true → ((a : ℕ) → a < n → a ≢ x → p a ≡ q a) →
    count n q ≡ count n p + 1
count_more zero x p q low e f h = absurd (omega arith)
count_more (suc n) x p q low e f h = elim (cases_eq x n) [
  | inl same ↦
      let at_p : p n ≡ false = ap p (sym same) ∙ e in
      let at_q : q n ≡ true = ap q (sym same) ∙ f in
      more_here (p n) (q n) _ _ at_p at_q (sym (count_same n p q (λ a less. h a (omega arith) (λ equal. omega arith))))
  | inr other ↦
      let less : x < n = omega arith in
      more_later (p n) (q n) _ _ (h n (omega arith) (λ equal. other (sym equal))) (count_more n x p q less e f (λ a small differ. h a (omega arith) differ))
]

pub count_none : (n : ℕ) (p : ℕ → Bool) → ((a : ℕ) → a < n → p a ≡ false) → count n p ≡ 0
count_none zero p h = refl
count_none (suc n) p h =
    let here = h n (omega arith) in
    let rest = count_none n p (λ a low. h a (omega arith)) in
    rw (here) (omega (arith, rest))

pub count_all : (n : ℕ) (p : ℕ → Bool) → ((a : ℕ) → a < n → p a ≡ true) → count n p ≡ n
count_all zero p h = refl
count_all (suc n) p h =
    let here = h n (omega arith) in
    let rest = count_all n p (λ a low. h a (omega arith)) in
    rw (here) (omega (arith, rest))

-- those that pass are those that pass another test too, and those that do not
split_step : (p q : Bool) (a b c : ℕ) → a ≡ b + c → cond p 1 0 + a ≡ (cond (p && q) 1 0 + b) + (cond (p && not q) 1 0 + c)
split_step true true a b c h = omega arith
split_step true false a b c h = omega arith
split_step false true a b c h = omega arith
split_step false false a b c h = omega arith

pub count_split : (n : ℕ) (p q : ℕ → Bool) → count n p ≡ count n (λ a. p a && q a) + count n (λ a. p a && not (q a))
count_split zero p q = refl
count_split (suc n) p q = split_step (p n) (q n) _ _ _ (count_split n p q)

-- a range in two pieces
sum_step : (p : Bool) (a b c : ℕ) → a ≡ b + c → cond p 1 0 + a ≡ b + (cond p 1 0 + c)
sum_step p a b c h = omega arith

pub count_sum : (n m : ℕ) (p : ℕ → Bool) → count (n + m) p ≡ count n p + count m (λ a. p (n + a))
count_sum n zero p =
    let e : n + 0 ≡ n = omega arith in
    let f : count (n + 0) p ≡ count n p = ap (λ k. count k p) e in
    omega (arith, f)
count_sum n (suc m) p =
    let e : n + suc m ≡ suc (n + m) = omega arith in
    ap (λ k. count k p) e ∙ sum_step (p (n + m)) _ _ _ (count_sum n m p)

-- a label of the list occurs, and what occurs is a label
pub occurs_label : (labels : List ℕ) (v : ℕ) → v < length labels → occurs (label labels v) labels ≡ true
occurs_label [] v low = absurd (omega arith)
occurs_label (x ∷ labels) zero low = rw (eq-eqb x x refl) refl
occurs_label (x ∷ labels) (suc v) low = or_right (eqb (label labels v) x) _ (occurs_label labels v (omega arith))

pub record HasLabel (a : ℕ) (labels : List ℕ) : Type 0 where
  pub vertex : ℕ
  pub in_range : vertex < length labels
  pub label_is : label labels vertex ≡ a

pub occurs_find : (a : ℕ) (labels : List ℕ) → occurs a labels ≡ true → HasLabel a labels
occurs_find a [] h = absurd (cc)
occurs_find a (x ∷ labels) h = elim (cases_Bool (eqb a x)) [
  | inl here ↦ record { vertex = 0; in_range = omega arith; label_is = sym (eqb-true a x here) }
  | inr later ↦
      let found = occurs_find a labels (rw later at h) in
      record { vertex = suc found.vertex; in_range = omega (arith, found.in_range); label_is = found.label_is }
]

pub label_occurs : (a : ℕ) (labels : List ℕ) (v : ℕ) → v < length labels → label labels v ≡ a → occurs a labels ≡ true
label_occurs a labels v low e = ap (λ x. occurs x labels) (sym e) ∙ occurs_label labels v low

-- no label is above the greatest
top_step : (x t : ℕ) → x ≤ cond (ltb t x) x t
top_step x t = grind (arith, nat_tests)

top_later : (x t y : ℕ) → y ≤ t → y ≤ cond (ltb t x) x t
top_later x t y h = grind (arith, nat_tests)

pub label_top : (labels : List ℕ) (v : ℕ) → label labels v ≤ greatest_label labels
label_top [] v = omega arith
label_top (x ∷ labels) zero = top_step x (greatest_label labels)
label_top (x ∷ labels) (suc v) = top_later x (greatest_label labels) _ (label_top labels v)

pub occurs_top : (a : ℕ) (labels : List ℕ) → occurs a labels ≡ true → a ≤ greatest_label labels
occurs_top a labels h =
    let found = occurs_find a labels h in
    let most = label_top labels found.vertex in
    let e = found.label_is in
    omega (arith, most, e)

top_tail : (x t n : ℕ) → cond (ltb t x) x t < n → t < n
top_tail x t n h = grind (arith, nat_tests)

top_head : (x t n : ℕ) → cond (ltb t x) x t < n → x < n
top_head x t n h = grind (arith, nat_tests)

-- the number of parts counts the numbers that occur
known_step : (p : ℕ → Bool) (x n : ℕ) → p x ≡ true → (a : ℕ) → (eqb a x || p a) ≡ p a
known_step p x n h a = elim (cases_eq a x) [
  | inl same ↦ rw (same, h, eq-eqb x x refl) refl
  | inr other ↦ rw (ne_eqb a x other) refl
]

parts_step : (labels : List ℕ) (x n : ℕ) (here : Bool) → occurs x labels ≡ here → x < n → parts labels ≡ count n (λ a. occurs a labels) →
    cond here 0 1 + parts labels ≡ count n (λ a. eqb a x || occurs a labels)
parts_step labels x n true e low h =
    let same = count_same n (λ a. eqb a x || occurs a labels) (λ a. occurs a labels) (λ a less. known_step (λ k. occurs k labels) x n e a) in
    omega (arith, same, h)
parts_step labels x n false e low h =
    let more = count_more n x (λ a. occurs a labels) (λ a. eqb a x || occurs a labels) low e (rw (eq-eqb x x refl) refl)
    (λ a less other. sym (rw (ne_eqb a x other) refl)) in
    omega (arith, more, h)

pub parts_count : (labels : List ℕ) (n : ℕ) → greatest_label labels < n → parts labels ≡ count n (λ a. occurs a labels)
parts_count [] n h = sym (count_none n (λ a. false) (λ a low. refl))
parts_count (x ∷ labels) n h =
    parts_step labels x n (occurs x labels) refl (top_head x (greatest_label labels) n h) (parts_count labels n (top_tail x (greatest_label labels) n h))

most_step : (here : Bool) (a n : ℕ) → a ≤ n → cond here 0 1 + a ≤ suc n
most_step true a n h = omega arith
most_step false a n h = omega arith

pub parts_most : (labels : List ℕ) → parts labels ≤ length labels
parts_most [] = omega arith
parts_most (x ∷ labels) = most_step (occurs x labels) _ _ (parts_most labels)

-- a list that is not empty has a part
some_step : (here : Bool) (labels : List ℕ) (x : ℕ) → occurs x labels ≡ here → (0 < length labels → 0 < parts labels) → 0 < cond here 0 1 + parts labels
some_step true labels x e h =
    let found = occurs_find x labels e in
    let low = found.in_range in
    let more = h (omega (arith, low)) in
    omega (arith, more)
some_step false labels x e h = omega arith

pub parts_some : (labels : List ℕ) → 0 < length labels → 0 < parts labels
parts_some [] h = absurd (omega arith)
parts_some (x ∷ labels) h = some_step (occurs x labels) labels x refl (parts_some labels)

-- a finer list has as many parts or more
refines_later : (x y : ℕ) (fine coarse : List ℕ) (n : ℕ) → Refines (suc n) (x ∷ fine) (y ∷ coarse) → Refines n fine coarse
refines_later x y fine coarse n r = record { joins = λ u v hu hv e. r.joins (suc u) (suc v) (omega arith) (omega arith) e }

finer_step : (p q : Bool) (a b : ℕ) → (p ≡ true → q ≡ true) → a ≤ b → cond q 0 1 + a ≤ cond p 0 1 + b
finer_step true true a b h l = omega arith
finer_step true false a b h l = absurd (let e = h refl in cc)
finer_step false true a b h l = omega arith
finer_step false false a b h l = omega arith

pub finer_parts : (fine coarse : List ℕ) → length fine ≡ length coarse → Refines (length fine) fine coarse → parts coarse ≤ parts fine
finer_parts fine [] l r = omega arith
finer_parts [] (y ∷ coarse) l r = absurd (omega arith)
finer_parts (x ∷ fine) (y ∷ coarse) l r =
    finer_step (occurs x fine) (occurs y coarse) (parts coarse) (parts fine)
    (λ e.
    let found = occurs_find x fine e in
    let low = found.in_range in
    label_occurs y coarse found.vertex (omega (arith, low)) (sym (r.joins 0 (suc found.vertex) (omega arith) (omega (arith, low)) (sym found.label_is))))
    (finer_parts fine coarse (omega arith) (refines_later x y fine coarse (length fine) r))
