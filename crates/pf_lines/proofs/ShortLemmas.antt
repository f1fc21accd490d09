-- Digits that a reader has found in front of a text, and the number that they spell.
use Rattle.std.proofs.Common.{◌≡◌, ◌≢◌, ℕ, zero, suc, ◌+◌, ◌<◌, ◌≤◌, ◌^◌, Bool, true, false, cond, List, [], ◌∷◌, ◌++◌, length, get_or, take, drop, Some, refl, sym, ap, ◌∙◌, arith}
use Rattle.std.specs.Prelude.{pos, neg_ℤ}
use Rattle.std.specs.Bool.{MatchBool}
use Rattle.std.specs.List.{list_all, take_while}
use Rattle.std.specs.Option.{option_map}
use Rattle.std.proofs.lemmas.List.{take-append-drop, length-take-le}
use Rattle.std.proofs.lemmas.List.Sums.{take_while-cons}
use Rattle.pf_text.specs.Numbers.{is_digit, value_from, natural_of, whole_of, number_front}
use Rattle.pf_text.proofs.NumbersLemmas.{first_digit, natural_of-digits, whole_of-minus, whole_of-plain, number_front-minus, number_front-plain, not_minus}
use Rattle.pf_lines.specs.Short.{AreDigits, IsFront}

-- digits, and then the end or another byte
front_at : (bytes : List ℕ) (n : ℕ) → n ≤ length bytes → list_all is_digit (take n bytes) ≡ true → (n < length bytes → is_digit (get_or bytes n 0) ≡ false)
    → take_while is_digit bytes ≡ take n bytes
front_at [] zero low all stops = refl
front_at [] (suc n) low all stops = absurd (omega arith)
front_at (b ∷ bytes) zero low all stops =
    let other : is_digit b ≡ false = stops (omega arith) in
    take_while-cons is_digit b bytes ∙ ap (λ (t : Bool). cond t (b ∷ take_while is_digit bytes) []) other
front_at (b ∷ bytes) (suc n) low all stops =
    let split = first_digit b (take n bytes) all in
    let first : is_digit b ≡ true = split.0 in
    take_while-cons is_digit b bytes
    ∙ ap (λ (t : Bool). cond t (b ∷ take_while is_digit bytes) []) first
    ∙ ap (λ (ds : List ℕ). b ∷ ds) (front_at bytes n (omega arith) split.1 (λ l. stops (omega arith)))

pub digits_end : (bytes : List ℕ) (value count : ℕ) → count ≤ length bytes → list_all is_digit (take count bytes) ≡ true → value ≡ value_from 0 (take count bytes)
    → value < 10 ^ 18 → (count < length bytes → is_digit (get_or bytes count 0) ≡ false) → AreDigits bytes value count
digits_end bytes value count within all exact few stops = record {
  few = few;
  within = within;
  front = front_at bytes count within all stops;
  all = all;
  exact = exact;
}

-- the value of some of them
value_of : (bytes : List ℕ) (value count : ℕ) → AreDigits bytes value count → 0 < count → natural_of (take count bytes) ≡ Some value
value_of bytes value count d some =
    let long : length (take count bytes) ≡ count = length-take-le count bytes d.within in
    natural_of-digits (take count bytes) (omega (arith, long, some)) d.all ∙ ap Some (sym d.exact)

pub front_with_minus : (text digits bytes rest : List ℕ) (value count : ℕ) → MatchBool true (text ≡ 45 ∷ digits) ((get_or text 0 0 ≢ 45) × (digits ≡ text))
    → AreDigits digits value count → 0 < count → bytes ≡ take (count + 1) text → rest ≡ drop (count + 1) text → IsFront text (neg_ℤ (pos value)) bytes rest
front_with_minus text digits bytes rest value count split d some front back =
    let one : count + 1 ≡ suc count = omega arith in
    let at : bytes ≡ 45 ∷ take count digits = front ∙ ap (λ (n : ℕ). take n text) one ∙ ap (take (suc count)) split in
    record {
      front = at ∙ ap (λ (ds : List ℕ). 45 ∷ ds) (sym d.front) ∙ sym (number_front-minus digits) ∙ ap number_front (sym split);
      whole = sym (take-append-drop (count + 1) text) ∙ ap (λ (xs : List ℕ). xs ++ drop (count + 1) text) (sym front) ∙ ap (λ (xs : List ℕ). bytes ++ xs) (sym back);
      value = ap whole_of at ∙ whole_of-minus (take count digits) ∙ ap (option_map (λ n. neg_ℤ (pos n))) (value_of digits value count d some);
    }

pub front_without : (text digits bytes rest : List ℕ) (value count : ℕ) → MatchBool false (text ≡ 45 ∷ digits) ((get_or text 0 0 ≢ 45) × (digits ≡ text))
    → AreDigits digits value count → 0 < count → bytes ≡ take count text → rest ≡ drop count text → IsFront text (pos value) bytes rest
front_without text digits bytes rest value count split d some front back =
    let at : bytes ≡ take count digits = front ∙ ap (take count) (sym split.1) in
    record {
      front = at ∙ sym d.front ∙ ap (take_while is_digit) split.1 ∙ sym (number_front-plain text split.0);
      whole = sym (take-append-drop count text) ∙ ap (λ (xs : List ℕ). xs ++ drop count text) (sym front) ∙ ap (λ (xs : List ℕ). bytes ++ xs) (sym back);
      value = ap whole_of at ∙ whole_of-plain (take count digits) (not_minus (take count digits) d.all) ∙ ap (option_map pos) (value_of digits value count d some);
    }
