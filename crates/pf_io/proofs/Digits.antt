-- How many digits a number has, and where its text stands in a buffer.
use Rattle.std.proofs.Common.{◌≡◌, ℕ, ◌+◌, ◌/◌, ◌^◌, ◌<◌, ◌≤◌, List, [], ◌∷◌, ◌++◌, length, take, drop, set, refl, sym, ap, ◌∙◌, arith, append_assoc}
use Rattle.std.proofs.lemmas.Fmt.{length-decimal-le, decimal_digit}
use Rattle.std.proofs.lemmas.List.{take_more_set}
use Rattle.std.proofs.Math.Seq.{take-add, take-append_seam}
use Rattle.std.specs.Fmt.{decimal}
use Rattle.itoa.proofs.Decimal.{length_one, length_two, length_pair, length_four}

pub length_most : (n : ℕ) → n < 2 ^ 64 → length (decimal n) ≤ 20
length_most n h = length-decimal-le 20 n (omega arith) (omega arith) h

pub length_three : (n : ℕ) → 100 ≤ n → n < 1000 → length (decimal n) ≡ 3
length_three n lo hi = omega (arith, length_pair n lo (omega arith), length_one (n / 100) (omega arith))

pub length_fourth : (n : ℕ) → 1000 ≤ n → n < 10000 → length (decimal n) ≡ 4
length_fourth n lo hi = omega (arith, length_pair n (omega arith) (omega arith), length_two (n / 100) (omega arith) (omega arith))

pub length_five : (n : ℕ) → 10000 ≤ n → n < 100000 → length (decimal n) ≡ 5
length_five n lo hi = omega (arith, length_four n lo (omega arith), length_one (n / 10000) (omega arith))

pub length_six : (n : ℕ) → 100000 ≤ n → n < 1000000 → length (decimal n) ≡ 6
length_six n lo hi = omega (arith, length_four n (omega arith) (omega arith), length_two (n / 10000) (omega arith) (omega arith))

pub length_seven : (n : ℕ) → 1000000 ≤ n → n < 10000000 → length (decimal n) ≡ 7
length_seven n lo hi = omega (arith, length_four n (omega arith) (omega arith), length_three (n / 10000) (omega arith) (omega arith))

pub length_eight : (n : ℕ) → 10000000 ≤ n → n < 100000000 → length (decimal n) ≡ 8
length_eight n lo hi = omega (arith, length_four n (omega arith) (omega arith), length_fourth (n / 10000) (omega arith) (omega arith))

-- without its last eight digits
pub length_behind_eight : (n : ℕ) → 100000000 ≤ n → n < 2 ^ 64 → length (decimal n) ≡ length (decimal (n / 100000000)) + 8
length_behind_eight n lo hi =
    let same : n / 10000 / 10000 ≡ n / 100000000 = omega arith in
    let rest : length (decimal (n / 10000 / 10000)) ≡ length (decimal (n / 100000000)) = ap (λ (k : ℕ). length (decimal k)) same in
    omega (arith, length_four n (omega arith) hi, length_four (n / 10000) (omega arith) (omega arith), rest)

-- a number of one digit
pub digit_put : (old : List ℕ) (at n : ℕ) → at < length old → n < 10 → take (at + 1) (set old at (48 + n)) ≡ take at old ++ decimal n
digit_put old at n low small = take_more_set old at (48 + n) low ∙ ap (λ (text : List ℕ). take at old ++ text) (sym (decimal_digit n small))

-- a text that was written up to its end
pub text_put : (old new text : List ℕ) (at start end : ℕ) → start + length text ≡ end → end ≡ at + length text
    → drop start new ≡ text ++ drop end old → take start new ≡ take start old → take end new ≡ take at old ++ text
text_put old new text at start end from to written before =
    let same : start ≡ at = omega arith in
    let rest : drop at new ≡ text ++ drop end old = rw same at written in
    let front : take at new ≡ take at old = rw same at before in
    rw (to, take-add at (length text) new, rest, front, take-append_seam text (drop end old)) refl

-- a byte, and a text after it
pub byte_and_text : (old new text : List ℕ) (at b end : ℕ) → at < length old
    → take end new ≡ take (at + 1) (set old at b) ++ text → take end new ≡ take at old ++ (b ∷ text)
byte_and_text old new text at b end low e = e ∙ ap (λ (front : List ℕ). front ++ text) (take_more_set old at b low) ∙ append_assoc (take at old) (b ∷ []) text
