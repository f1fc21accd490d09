-- What readers conclude that take a piece from the front of a text.
use Rattle.std.proofs.Common.{◌≡◌, ◌≢◌, ℕ, suc, ◌<◌, ◌^◌, Bool, true, cond, List, [], ◌∷◌, ◌++◌, refl, sym, ap, ◌∙◌}
use Rattle.std.specs.Prelude.{ℤ, pos, negsuc, nat_abs}
use Rattle.std.specs.List.{list_all, take_while}
use Rattle.std.specs.Fmt.{decimal, signed_decimal}
use Rattle.std.proofs.lemmas.List.{append-nil, append_cancel_left}
use Rattle.std.proofs.lemmas.List.Sums.{take_while-cons}
use Rattle.pf_text.specs.Numbers.{is_digit, number_front}
use Rattle.pf_text.proofs.NumbersLemmas.{first_digit, decimal_reads, number_front-plain, number_front-minus, number_front-signed_decimal, one_number, not_minus}
use Rattle.pf_lines.specs.Taking.{Stops}

-- ---- a number in front

all_digits : (digits : List ℕ) → list_all is_digit digits ≡ true → take_while is_digit digits ≡ digits
all_digits [] all = refl
all_digits (d ∷ digits) all =
    let split = first_digit d digits all in
    let first : is_digit d ≡ true = split.0 in
    take_while-cons is_digit d digits ∙ ap (λ (t : Bool). cond t (d ∷ take_while is_digit digits) []) first ∙ ap (λ (ds : List ℕ). d ∷ ds) (all_digits digits split.1)

number_alone : (n : ℤ) → nat_abs n < 10 ^ 64 → number_front (signed_decimal n) ≡ signed_decimal n
number_alone (pos n) few =
    let all = (decimal_reads n few).all in
    number_front-plain (decimal n) (not_minus (decimal n) all) ∙ all_digits (decimal n) all
number_alone (negsuc n) few =
    let all = (decimal_reads (suc n) few).all in
    number_front-minus (decimal (suc n)) ∙ ap (λ (ds : List ℕ). 45 ∷ ds) (all_digits (decimal (suc n)) all)

-- a number, and no digit after it
pub number_in_front : (n : ℤ) (rest : List ℕ) → nat_abs n < 10 ^ 64 → Stops rest → number_front (signed_decimal n ++ rest) ≡ signed_decimal n
number_in_front n [] few stops = ap number_front (append-nil (signed_decimal n)) ∙ number_alone n few
number_in_front n (b ∷ rest) few stops = number_front-signed_decimal n b rest few stops

-- ---- what is left

-- after one word stands one rest
pub rest_is : (old word new rest : List ℕ) → old ≡ word ++ new → old ≡ word ++ rest → new ≡ rest
rest_is old word new rest taken e = append_cancel_left word new rest (sym taken ∙ e)

pub record IsTaken (m n : ℤ) (new rest : List ℕ) : Type 0 where
  pub value : m ≡ n
  pub left : new ≡ rest

-- in front stands one number
pub number_is : (m n : ℤ) (old new rest : List ℕ) → nat_abs m < 10 ^ 64 → nat_abs n < 10 ^ 64 → number_front old ≡ signed_decimal m → old ≡ signed_decimal m ++ new
    → Stops rest → old ≡ signed_decimal n ++ rest → IsTaken m n new rest
number_is m n old new rest few_m few_n front taken stops e =
    let same : m ≡ n = one_number m n few_m few_n (sym front ∙ ap number_front e ∙ number_in_front n rest few_n stops) in
    record {
      value = same;
      left = rest_is old (signed_decimal m) new rest taken (e ∙ ap (λ (k : ℤ). signed_decimal k ++ rest) (sym same));
    }

-- and it is not refused
pub number_not_refused : (n : ℤ) (old rest : List ℕ) → nat_abs n < 10 ^ 64 → number_front old ≢ signed_decimal n → Stops rest → old ≡ signed_decimal n ++ rest → ⊥
number_not_refused n old rest few refused stops e = refused (ap number_front e ∙ number_in_front n rest few stops)
