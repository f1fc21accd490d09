-- Small facts on numbers, truth values and lists that several crates cite.
use Rattle.std.proofs.Common.{ℕ, zero, suc, ◌<◌, arith, ◌≡◌, ◌+◌, List, [], ◌∷◌, ◌++◌, length, get_or, ap, ◌∙◌, inl, inr, ◌≤◌, Bool, true, false, cond, refl, not, take, ◌≢◌, set, ◌&&◌, drop, ◌||◌, ◌*◌, ◌^◌, map, add-one}
use Rattle.std.specs.Prelude.{ℤ, ◌+ℤ◌, pos, ◌≤ℤ◌, ◌<ℤ◌, ◌*ℤ◌, nat_lt, ◌==◌}
use Rattle.std.proofs.lemmas.Int.{ints}
use Rattle.std.proofs.lemmas.Bool.{cases_lt, both_ways}
use Rattle.std.proofs.lemmas.List.{get_or_push, get_or_append_left, get_or-set_other, get_or-map, length_push, get_or-set_same}
use Rattle.pf_model.specs.Cut.{has, at_arc}
use Rattle.std.proofs.lemmas.Grind.{common_steps}
use Rattle.pf_model.specs.declared.AffineArc.{AffineArc}
use Rattle.std.proofs.lemmas.Bool.Decides.{nat_tests}
use Rattle.pf_model.specs.Fraction.{Fraction, IsBelow, IsAtMost}
use Rattle.std.proofs.Math.Seq.{drop-cons, take-append_seam}

pub below_three : (P : ℕ → Type 0) → P 0 → P 1 → P 2 → (k : ℕ) → k < 3 → P k
below_three P a b c zero low = a
below_three P a b c (suc zero) low = b
below_three P a b c (suc (suc zero)) low = c
below_three P a b c (suc (suc (suc k))) low = absurd (omega (arith, low))

pub none_before : (a : ℤ) → a ≡ pos 0 +ℤ a
none_before a = omega (arith, ints)

pub add_before : (here a b c : ℤ) → a ≡ b +ℤ c → here +ℤ a ≡ (here +ℤ b) +ℤ c
add_before here a b c h = omega (arith, ints)

pub below_one : (P : ℕ → Type 0) → P 0 → (k : ℕ) → k < 1 → P k
below_one P a zero low = a
below_one P a (suc k) low = absurd (omega (arith, low))

pub item_more : {X : Type 0} (old new : List X) (x d : X) (j : ℕ) (f : ℕ → X) → length old ≡ j → new ≡ old ++ x ∷ [] → ((k : ℕ) → k < j → get_or old k d ≡ f k) →
    x ≡ f j → (k : ℕ) → k < j + 1 → get_or new k d ≡ f k
item_more old new x d j f full step before here k low = elim (cases_lt k j) [
  | inl less ↦ ap (λ l. get_or l k d) step ∙ get_or_append_left old (x ∷ []) d k (omega (arith, less, full)) ∙ before k less
  | inr most ↦
      let e : j ≡ k = omega (arith, low, most) in
      ap (λ l. get_or l k d) step ∙ get_or_push old x d k (full ∙ e) ∙ here ∙ ap f e
]

pub below_two : (P : ℕ → Type 0) → P 0 → P 1 → (k : ℕ) → k < 2 → P k
below_two P a b zero low = a
below_two P a b (suc zero) low = b
below_two P a b (suc (suc k)) low = absurd (omega (arith, low))

pub below_four : (P : ℕ → Type 0) → P 0 → P 1 → P 2 → P 3 → (k : ℕ) → k < 4 → P k
below_four P a b c d zero low = a
below_four P a b c d (suc zero) low = b
below_four P a b c d (suc (suc zero)) low = c
below_four P a b c d (suc (suc (suc zero))) low = d
below_four P a b c d (suc (suc (suc (suc k)))) low = absurd (omega (arith, low))

pub some_step : (b : Bool) (x rest : ℤ) → pos 1 ≤ℤ x → pos 0 ≤ℤ rest → pos 0 ≤ℤ (cond b x (pos 0) +ℤ rest)
some_step true x rest h l = omega (arith, ints)
some_step false x rest h l = omega (arith, ints)

pub first_step : (b : Bool) (x rest : ℤ) → b ≡ true → pos 1 ≤ℤ x → pos 0 ≤ℤ rest → pos 1 ≤ℤ (cond b x (pos 0) +ℤ rest)
first_step true x rest e h l = omega (arith, ints)
first_step false x rest e h l = cc

pub later_step : (b : Bool) (x rest : ℤ) → pos 1 ≤ℤ x → pos 1 ≤ℤ rest → pos 1 ≤ℤ (cond b x (pos 0) +ℤ rest)
later_step true x rest h l = omega (arith, ints)
later_step false x rest h l = omega (arith, ints)

pub not_true : (b : Bool) → not b ≡ true → b ≡ false
not_true true e = cc
not_true false e = refl

pub last_apart : (xs : List Bool) (n : ℕ) → length xs ≡ suc n → has xs n ≡ false → xs ≡ take n xs ++ (false ∷ [])
last_apart [] n e h = absurd (omega arith)
last_apart (b ∷ []) zero e h = ap (λ c. c ∷ []) h
last_apart (b ∷ []) (suc n) e h = absurd (omega arith)
last_apart (b ∷ (c ∷ xs)) zero e h = absurd (omega arith)
last_apart (b ∷ (c ∷ xs)) (suc n) e h = ap (λ l. b ∷ l) (last_apart (c ∷ xs) n (omega arith) h)

pub kept_number : (side : List Bool) (xs : List ℕ) (w x y : ℕ) → has side w ≡ false → has side x ≡ true → get_or (set xs w y) x 0 ≡ get_or xs x 0
kept_number side xs w x y out h =
    let ne : x ≢ w = λ same. both_ways _ out (rw (← same) h) in
    rw get_or-set_other refl

pub need_step : (u v : Bool) (x rest : ℤ) → (u ≡ true → v ≡ true) → rest ≡ pos 0 → cond (u && not v) x (pos 0) +ℤ rest ≡ pos 0
need_step true true x rest h e = omega (arith, ints)
need_step true false x rest h e = let f : false ≡ true = h refl in cc
need_step false v x rest h e = omega (arith, ints)

pub pass_both : (p q : Bool) (x y a b : ℤ) → p ≡ false → q ≡ false → a ≡ b → cond p x (pos 0) +ℤ (cond q y (pos 0) +ℤ a) ≡ b
pass_both true q x y a b e f h = cc
pass_both false true x y a b e f h = cc
pass_both false false x y a b e f h = omega (arith, ints, h)

pub length_front : (xs : List Bool) (n : ℕ) → n ≤ length xs → length (take n xs) ≡ n
length_front xs n low = grind (arith, common_steps)

pub same_front : (front a b : List ℕ) → front ++ a ≡ front ++ b → a ≡ b
same_front [] a b e = e
same_front (x ∷ front) a b e = same_front front a b (ap (drop 1) e)

pub one_more : (xs ys : List AffineArc) (a : AffineArc) → (xs ++ ys) ++ (a ∷ []) ≡ xs ++ (ys ++ (a ∷ []))
one_more [] ys a = refl
one_more (x ∷ xs) ys a = ap (λ l. x ∷ l) (one_more xs ys a)

pub join_three : (xs ys zs : List AffineArc) → (xs ++ ys) ++ zs ≡ xs ++ (ys ++ zs)
join_three [] ys zs = refl
join_three (x ∷ xs) ys zs = ap (λ l. x ∷ l) (join_three xs ys zs)

pub off_step : (b : Bool) (x rest : ℤ) → b ≡ false → rest ≡ pos 0 → cond b x (pos 0) +ℤ rest ≡ pos 0
off_step true x rest e h = cc
off_step false x rest e h = omega (arith, ints)

pub not_false : (b : Bool) → b ≡ false → not b ≡ true
not_false true e = cc
not_false false e = refl

pub two_more : (xs : List AffineArc) (a b : AffineArc) → (xs ++ (a ∷ [])) ++ (b ∷ []) ≡ xs ++ (a ∷ (b ∷ []))
two_more [] a b = refl
two_more (x ∷ xs) a b = ap (λ l. x ∷ l) (two_more xs a b)

pub or_left : (p q : Bool) → p ≡ true → (p || q) ≡ true
or_left true q e = refl
or_left false q e = cc

pub or_right : (p q : Bool) → q ≡ true → (p || q) ≡ true
or_right true q e = refl
or_right false q e = e

pub skip_one : (p : Bool) (x : ℤ) → p ≡ false → cond p x (pos 0) +ℤ pos 0 ≡ pos 0
skip_one true x e = cc
skip_one false x e = omega (arith, ints)

pub off_both : (p q : Bool) → p ≡ false → (p && q) ≡ false
off_both true q e = cc
off_both false q e = refl

pub sum_low : (test : Bool) (x a : ℤ) → pos 0 ≤ℤ x → pos 0 ≤ℤ a → pos 0 ≤ℤ (cond test x (pos 0) +ℤ a)
sum_low true x a h k = omega (arith, ints)
sum_low false x a h k = omega (arith, ints)

pub sum_high : (test : Bool) (n : ℕ) (x a : ℤ) → pos 0 ≤ℤ x → x <ℤ pos (2 ^ 104) → a ≤ℤ pos (n * 2 ^ 104) → (cond test x (pos 0) +ℤ a) ≤ℤ pos (suc n * 2 ^ 104)
sum_high true n x a l h k = omega (arith, ints)
sum_high false n x a l h k = omega (arith, ints)

pub number_at : (numbers : List ℕ) (i : ℕ) → i < length numbers → at_arc (map pos numbers) i ≡ pos (get_or numbers i 0)
number_at numbers i low = get_or-map pos numbers i 0 (pos 0) low

pub none_times : (k : ℤ) → pos 0 ≡ k *ℤ pos 0
none_times k = omega (arith, ints)

pub not_lower : (x y : ℕ) → nat_lt x y ≡ false → y ≤ x
not_lower x y h = grind (arith, nat_tests)

pub add_before_by : (here a b c : ℤ) → a ≡ b +ℤ c → here +ℤ a ≡ (here +ℤ b) +ℤ c
add_before_by here a b c h = omega (arith, ints, h)

pub cons_same : {X : Type 0} (x y : X) (xs ys : List X) → x ≡ y → xs ≡ ys → x ∷ xs ≡ y ∷ ys
cons_same x y xs ys e f = ap (λ z. z ∷ xs) e ∙ ap (λ zs. y ∷ zs) f

pub not_zero : (n : ℕ) → 1 ≤ n → (n == 0) ≡ false
not_zero n some = grind (arith, nat_tests)

pub more_full : {X : Type 0} (old new : List X) (x : X) (j : ℕ) → length old ≡ j → new ≡ old ++ x ∷ [] → length new ≡ j + 1
more_full old new x j full step = ap length step ∙ length_push old x ∙ ap (λ n. n + 1) full

pub below_at_most : (x y : Fraction) → IsBelow x y → IsAtMost x y
below_at_most x y h = omega (arith, ints, h)

pub drop_next : {X : Type 0} (xs : List X) (i : ℕ) (other : X) → i < length xs → drop i xs ≡ get_or xs i other ∷ drop (i + 1) xs
drop_next xs i other low = rw add-one (drop-cons xs i other low)

pub raised_here : (sums sums' : List ℤ) (i : ℕ) (y : ℤ) → i < length sums → sums' ≡ set sums i y → at_arc sums' i ≡ y
raised_here sums sums' i y low e = rw (e, get_or-set_same) refl

pub raised_there : (sums sums' : List ℤ) (i v : ℕ) (y : ℤ) → v ≢ i → sums' ≡ set sums i y → at_arc sums' v ≡ at_arc sums v
raised_there sums sums' i v y ne e = rw (e, get_or-set_other) refl

pub behind_both : (x y a b c d : ℤ) → a ≡ b +ℤ c → d ≡ c → x +ℤ (y +ℤ a) ≡ (x +ℤ (y +ℤ b)) +ℤ d
behind_both x y a b c d h e = omega (arith, ints, h, e)

pub lent_back : {A : Type 0} (len : ℕ) (new rest : List A) → len ≡ length new → take len (new ++ rest) ≡ new
lent_back len new rest e = ap (λ n. take n (new ++ rest)) e ∙ take-append_seam new rest

pub set_here : (now after : List ℤ) (i : ℕ) (x : ℤ) → after ≡ set now i x → i < length now → at_arc after i ≡ x
set_here now after i x e low = rw (e, get_or-set_same) refl

pub set_there : (now after : List ℤ) (i k : ℕ) (x : ℤ) → after ≡ set now i x → k ≢ i → at_arc after k ≡ at_arc now k
set_there now after i k x e other = let ne : k ≢ i = other in rw (e, get_or-set_other) refl
