-- Spellings of numbers without zeros in front.
use Rattle.std.proofs.Common.{◌≡◌, ◌≢◌, ℕ, zero, suc, ◌+◌, ◌-◌, ◌*◌, ◌<◌, ◌^◌, Bool, true, false, eqb, List, [], ◌∷◌, length, get_or, take, Option, Some, None, refl, sym, ap, subst, ◌∙◌, arith}
use Rattle.std.specs.Prelude.{ℤ, pos, negsuc, neg_ℤ, nat_abs, ◌≤ℤ◌, FitsSigned}
use Rattle.std.specs.Int.{w128}
use Rattle.std.specs.Bool.{MatchBool}
use Rattle.std.specs.List.{take_while}
use Rattle.std.specs.Option.{option_map}
use Rattle.std.specs.Fmt.{decimal, signed_decimal}
use Rattle.std.proofs.lemmas.Fmt.{decimal_digit}
use Rattle.std.proofs.lemmas.List.Folds.{length-prefix_len}
use Rattle.std.proofs.lemmas.Int.{ints}
use Rattle.std.proofs.lemmas.Bool.{eqb-true, eq-eqb}
use Rattle.pf_text.specs.Numbers.{is_digit, natural_of, whole_of, number_front}
use Rattle.pf_text.proofs.NumbersLemmas.{Reads, decimal_reads, natural_of-nil, natural_of-inverse, digit_bounds, first_digit, value_from-le, decimal-value, whole_of-minus, whole_of-plain, number_front-minus, number_front-plain}
use Rattle.pf_lines.specs.Values.{is_canonical}

-- ---- the front of a text

as_many : (p : ℕ → Bool) (xs : List ℕ) (count : ℕ) → count ≡ length (take_while p xs) → take count xs ≡ take_while p xs
as_many p xs count e = ap (λ (n : ℕ). take n xs) (e ∙ length-prefix_len p xs)

pub front_behind_minus : (text digits front : List ℕ) (count : ℕ) → MatchBool true (text ≡ 45 ∷ digits) ((get_or text 0 0 ≢ 45) × (digits ≡ text)) → count ≡ length (take_while is_digit digits)
    → front ≡ take (1 + count) text → front ≡ number_front text
front_behind_minus text digits front count split e at =
    let one : 1 + count ≡ suc count = omega arith in
    rw (at, split, one) (ap (λ (ds : List ℕ). 45 ∷ ds) (as_many is_digit digits count e) ∙ sym (number_front-minus digits))

pub front_of_digits : (text digits front : List ℕ) (count : ℕ) → MatchBool false (text ≡ 45 ∷ digits) ((get_or text 0 0 ≢ 45) × (digits ≡ text)) → count ≡ length (take_while is_digit digits)
    → front ≡ take count text → front ≡ number_front text
front_of_digits text digits front count split e at =
    at ∙ ap (take count) (sym split.1) ∙ as_many is_digit digits count e ∙ ap (take_while is_digit) split.1 ∙ sym (number_front-plain text split.0)

-- ---- one spelling

-- numbers between numbers of 128 signed bits are short enough for std's decimal text
pub small_between : (min max n : ℤ) → FitsSigned w128 min → FitsSigned w128 max → min ≤ℤ n → n ≤ℤ max → nat_abs n < 10 ^ 64
small_between min max (pos n) fits_min fits_max low high = omega (arith, ints)
small_between min max (negsuc n) fits_min fits_max low high = omega (arith, ints)

-- a number between numbers of 128 signed bits has 128 signed bits
pub fits_between : (min max n : ℤ) → FitsSigned w128 min → FitsSigned w128 max → min ≤ℤ n → n ≤ℤ max → FitsSigned w128 n
fits_between min max (pos n) fits_min fits_max low high = record { sfits = omega (arith, ints) }
fits_between min max (negsuc n) fits_min fits_max low high = record { sfits = omega (arith, ints) }

above_zero : (n : ℕ) (digits : List ℕ) → Reads n digits → 0 < n → (d : ℕ) (others : List ℕ) → digits ≡ d ∷ others → 48 < d
above_zero n digits reads above d others e = omega (arith, reads.first above, ap (λ (ds : List ℕ). get_or ds 0 0) e)

not_zero : (d : ℕ) → 48 < d → eqb d 48 ≡ false
not_zero d above = by (eqb d 48) refl
  where
    by : (t : Bool) → eqb d 48 ≡ t → eqb d 48 ≡ false
    by true e = absurd (omega (arith, eqb-true d 48 e))
    by false e = e

canonical_natural : (n : ℕ) (digits : List ℕ) → digits ≡ decimal n → Reads n digits → is_canonical digits ≡ true
canonical_natural n [] e reads = refl
canonical_natural n (a ∷ []) e reads = refl
canonical_natural zero (a ∷ b ∷ digits) e reads = absurd (let one = e ∙ decimal_digit 0 (omega arith) in omega (arith, ap length one))
canonical_natural (suc n) (a ∷ b ∷ digits) e reads =
    let above = above_zero (suc n) (a ∷ b ∷ digits) reads (omega arith) a (b ∷ digits) refl in
    let minus : eqb a 45 ≡ false = other (eqb a 45) refl above in
    rw (not_zero a above, minus) refl
  where
    other : (t : Bool) → eqb a 45 ≡ t → 48 < a → eqb a 45 ≡ false
    other true e above = absurd (omega (arith, eqb-true a 45 e))
    other false e above = e

behind_minus : (n : ℕ) (digits : List ℕ) → Reads (suc n) digits → is_canonical (45 ∷ digits) ≡ true
behind_minus n [] reads = refl
behind_minus n (d ∷ digits) reads =
    let above = above_zero (suc n) (d ∷ digits) reads (omega arith) d digits refl in
    rw (not_zero d above) refl

-- the decimal text of a number is canonical
pub canonical_decimal : (n : ℤ) → nat_abs n < 10 ^ 64 → is_canonical (signed_decimal n) ≡ true
canonical_decimal (pos n) few = canonical_natural n (decimal n) refl (decimal_reads n few)
canonical_decimal (negsuc n) few = behind_minus n (decimal (suc n)) (decimal_reads (suc n) few)

-- ---- a canonical text of a number is its decimal text

canonical_digits : (a : ℕ) (digits : List ℕ) → is_canonical (a ∷ digits) ≡ true → a ≡ 48 → digits ≡ []
canonical_digits a [] canonical is_zero = refl
canonical_digits a (b ∷ digits) canonical is_zero = absurd (let contrary = rw (eq-eqb a 48 is_zero) at canonical in cc)

canonical_minus : (d : ℕ) (digits : List ℕ) → is_canonical (45 ∷ d ∷ digits) ≡ true → d ≢ 48
canonical_minus d digits canonical = λ is_zero. absurd (let contrary = rw (eq-eqb d 48 is_zero) at canonical in cc)

natural_spelling : (n : ℕ) (digits : List ℕ) → natural_of digits ≡ Some n → is_canonical digits ≡ true → n < 10 ^ 64 → digits ≡ decimal n
natural_spelling n [] e canonical few = absurd (let none = sym natural_of-nil ∙ e in cc)
natural_spelling n (d ∷ digits) e canonical few =
    let inverse = natural_of-inverse (d ∷ digits) n e in
    sym (decimal-value d digits inverse.0 (canonical_digits d digits canonical) (omega (arith, inverse.2, few))) ∙ ap decimal inverse.2

negative_spelling : (n : ℕ) (digits : List ℕ) → natural_of digits ≡ Some n → is_canonical (45 ∷ digits) ≡ true → nat_abs (neg_ℤ (pos n)) < 10 ^ 64 → 45 ∷ digits ≡ signed_decimal (neg_ℤ (pos n))
negative_spelling n [] e canonical few = absurd (let none = sym natural_of-nil ∙ e in cc)
negative_spelling zero (d ∷ digits) e canonical few =
    let inverse = natural_of-inverse (d ∷ digits) 0 e in
    let bounds = digit_bounds d (first_digit d digits inverse.0).0 in
    absurd (canonical_minus d digits canonical (omega (arith, bounds.0, inverse.2, value_from-le (10 * 0 + (d - 48)) digits)))
negative_spelling (suc n) (d ∷ digits) e canonical few =
    let inverse = natural_of-inverse (d ∷ digits) (suc n) e in
    ap (λ (ds : List ℕ). 45 ∷ ds) (sym (decimal-value d digits inverse.0 (λ is_zero. absurd (canonical_minus d digits canonical is_zero)) (omega (arith, inverse.2, few))) ∙ ap decimal inverse.2)

some_mapped : (f : ℕ → ℤ) (value : Option ℕ) (n : ℤ) → option_map f value ≡ Some n → (m : ℕ) × (value ≡ Some m) × (f m ≡ n)
some_mapped f None n e = absurd cc
some_mapped f (Some m) n e = (m, refl, cc)

pub canonical_spelling : (front : List ℕ) (n : ℤ) → whole_of front ≡ Some n → is_canonical front ≡ true → nat_abs n < 10 ^ 64 → front ≡ signed_decimal n
canonical_spelling [] n e canonical few = absurd (let none = sym (whole_of-plain [] (λ z. absurd (omega arith)) ∙ ap (option_map pos) natural_of-nil) ∙ e in cc)
canonical_spelling (b ∷ bytes) n e canonical few = by (eqb b 45) refl
  where
    plain : eqb b 45 ≡ false → b ≢ 45
    plain other is = absurd (let same = eq-eqb b 45 is in cc)

    by : (t : Bool) → eqb b 45 ≡ t → b ∷ bytes ≡ signed_decimal n
    by true is =
        let minus : b ≡ 45 = eqb-true b 45 is in
        let value = some_mapped (λ m. neg_ℤ (pos m)) (natural_of bytes) n (sym (whole_of-minus bytes) ∙ ap (λ (a : ℕ). whole_of (a ∷ bytes)) (sym minus) ∙ e) in
        let Canonical : ℕ → Type 0 = λ a. is_canonical (a ∷ bytes) ≡ true in
        let Few : ℤ → Type 0 = λ z. nat_abs z < 10 ^ 64 in
        let spelled = negative_spelling value.0 bytes value.1 (subst Canonical minus canonical) (subst Few (sym value.2) few) in
        ap (λ (a : ℕ). a ∷ bytes) minus ∙ spelled ∙ ap signed_decimal value.2
    by false other =
        let value = some_mapped pos (natural_of (b ∷ bytes)) n (sym (whole_of-plain (b ∷ bytes) (plain other)) ∙ e) in
        let spelled = natural_spelling value.0 (b ∷ bytes) value.1 canonical (let Few : ℤ → Type 0 = λ z. nat_abs z < 10 ^ 64 in subst Few (sym value.2) few) in
        spelled ∙ ap signed_decimal value.2
